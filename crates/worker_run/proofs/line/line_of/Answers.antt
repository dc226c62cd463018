use Rattle.std.proofs.Common.{ℕ, ◌≤◌, ap, arith, length}
use Rattle.std.specs.Fmt.{decimal}
use Rattle.std.proofs.lemmas.Fmt.{length-decimal-le}
use Rattle.worker_run.proofs.line.line_of.Goals as goal

-- the number of a position has at most four digits
short : (n : ℕ) → n ≤ 1000 → length (decimal n) ≤ 4
short n small = length-decimal-le 4 n (omega arith) (omega arith) (omega arith)

pub push_str-requires-3 : goal.push_str-requires-3
push_str-requires-3 c =
    let none = ap length c.new-line.ensures in
    let first = short c.args.complete (omega arith) in
    let text = ap length c.format.ensures.text in
    omega arith

pub push_str-requires-4 : goal.push_str-requires-4
push_str-requires-4 c =
    let none = ap length c.new-line.ensures in
    let first = short c.args.complete (omega arith) in
    let second = short c.args.positions (omega arith) in
    let one = ap length c.format.ensures.text in
    let other = ap length c.format-2.ensures.text in
    omega arith

pub push_str-requires-5 : goal.push_str-requires-5
push_str-requires-5 c =
    let none = ap length c.new-line.ensures in
    let first = short c.args.complete (omega arith) in
    let second = short c.args.positions (omega arith) in
    let one = ap length c.format.ensures.text in
    let other = ap length c.format-2.ensures.text in
    omega arith
