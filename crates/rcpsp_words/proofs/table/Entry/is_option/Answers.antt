use Rattle.std.proofs.Common.{◌≡◌, ℕ, true, List, Bor, rules, sym, ◌∙◌}
use Rattle.std.specs.Str.{bytes_eq}
use Rattle.rcpsp_words.proofs.TableLaws.{list_any-map}
use Rattle.rcpsp_words.proofs.table.Entry.is_option.Goals as goal

pub returns-then-eq : goal.returns-then-eq
returns-then-eq c =
    let test : List ℕ → _ = λ word. bytes_eq word c.args.command.now in
    let named : bytes_eq c.args.self.now.name.now c.args.name.now ≡ true = search rules in
    rw named (c.is_among.ensures
    ∙ sym (list_any-map test (λ (word : Bor (List ℕ)). word.now) c.args.self.now.commands.now))
