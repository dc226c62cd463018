use Rattle.std.proofs.Common.{◌≡◌, true, map, string_bytes, ◌+◌, drop, sym, subst, ap, ◌∙◌, rules}
use Rattle.std.proofs.lemmas.List.{at_drop_all}
use Rattle.rcpsp_words.specs.Part.{is_wrong, parts_after}
use Rattle.rcpsp_words.specs.Gathered.{Adds, given_by}
use Rattle.rcpsp_words.proofs.GivenLaws.{given_after, given_after-nothing, given_after-more, given_after-faulty, given_after-lacking, given_after-whole, next_of, Reads-refused}
use Rattle.rcpsp_words.proofs.gathered.gather.Goals as goal

pub loop-word-init : goal.loop-word-init
loop-word-init c = record {
  said =
      let parts = parts_after c.args.command.now c.args.command.now (map string_bytes c.args.words.now) in
      rw (c.new.ensures.items, c.new-2.ensures.items, c.new-3.ensures.items)
      (given_after-nothing parts);
  text = c.utf8.command;
}

pub returns-in_err-take : goal.returns-in_err-take
returns-in_err-take c =
    let command = c.args.command.now in
    let before = c.loop-word.before.now in
    let word = c.as_str-word.result.now in
    let rest = map string_bytes (drop (c.loop-word.word-index + 1) c.args.words.now) in
    let left = next_of string_bytes c.args.words.now c.loop-word.word-index c.word-item.result
    word c.loop-word-test.true c.word-item.is c.as_str-word.ensures.value in
    let given = given_by c.loop-word.gathered in
    Reads-refused given_by _ c.from_residual.result c.take.result c.in_err-take.field-0.0
    (search rules) c.in_err-take.was (λ undefined.
    let wrong = subst (λ part. is_wrong part ≡ true) c.of.ensures
    (c.take.ensures.wrong undefined) in
    sym c.loop-word.invariant.said
    ∙ ap (λ words. given_after given (parts_after command before words)) left
    ∙ given_after-faulty given command before word rest wrong)

pub loop-word-preserved : goal.loop-word-preserved
loop-word-preserved c =
    let command = c.args.command.now in
    let before = c.loop-word.before.now in
    let word = c.as_str-word.result.now in
    let rest = map string_bytes (drop (c.loop-word.word-index + 1) c.args.words.now) in
    let left = next_of string_bytes c.args.words.now c.loop-word.word-index c.word-item.result
    word c.loop-word-test.true c.word-item.is c.as_str-word.ensures.value in
    let old = given_by c.loop-word.gathered in
    let new = given_by c.take.new.self in
    let adds = subst (Adds old new) c.of.ensures c.in_ok-take.ensures.adds in
    record {
      said =
          sym (given_after-more old new command before word rest adds)
          ∙ ap (λ words. given_after old (parts_after command before words)) (sym left)
          ∙ c.loop-word.invariant.said;
      text = c.as_str-word.utf8;
    }

pub returns-in-Some : goal.returns-in-Some
returns-in-Some c =
    let given = given_by c.loop-word.gathered in
    let before = c.loop-word.before.now in
    sym c.loop-word.invariant.said
    ∙ at_drop_all (λ words. given_after given
    (parts_after c.args.command.now before (map string_bytes words))) c.args.words.now
    c.loop-word.word-index c.loop-word-test.false
    ∙ given_after-lacking given c.args.command.now before (c.in-Some.field-0.0.now, c.in-Some.field-0.1) (sym c.in-Some.ensures)

pub returns : goal.returns
returns c =
    let given = given_by c.loop-word.gathered in
    let before = c.loop-word.before.now in
    sym c.loop-word.invariant.said
    ∙ at_drop_all (λ words. given_after given
    (parts_after c.args.command.now before (map string_bytes words))) c.args.words.now
    c.loop-word.word-index c.loop-word-test.false
    ∙ given_after-whole given c.args.command.now before (sym c.in-None.ensures)
