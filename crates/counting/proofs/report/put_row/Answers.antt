use Rattle.std.proofs.Common.{◌≡◌, ◌++◌, vec_items, rules}
use Rattle.text.specs.Digits.{fixed}
use Rattle.text.specs.Lines.{field, last_field}
use Rattle.text.proofs.Joins.{behind}
use Rattle.counting.specs.Report.{count_shown}
use Rattle.counting.proofs.report.put_row.Goals as goal

pub returns : goal.returns
returns c =
    let row = c.args.row.now in
    let start = vec_items c.args.out.now in
    let first = vec_items c.put_field.new.out in
    let second = vec_items c.put_field-2.new.out in
    let third = vec_items c.put_field-3.new.out in
    let fourth = vec_items c.put_field-4.new.out in
    let fifth = vec_items c.put_field-5.new.out in
    let name = field (fixed 10 1 c.args.processor) in
    let em = field (count_shown row 0) in
    let ec = field (count_shown row 1) in
    let sm = field (count_shown row 2) in
    let s = field (count_shown row 3) in
    let i = last_field (count_shown row 4) in
    let one : first ≡ start ++ name = search rules in
    let two : second ≡ first ++ em = search rules in
    let three : third ≡ second ++ ec = search rules in
    let four : fourth ≡ third ++ sm = search rules in
    let five : fifth ≡ fourth ++ s = search rules in
    let six : vec_items c.put_last.new.out ≡ fifth ++ i = search rules in
    behind start name (em ++ (ec ++ (sm ++ (s ++ i)))) one
    (behind first em (ec ++ (sm ++ (s ++ i))) two
    (behind second ec (sm ++ (s ++ i)) three
    (behind third sm (s ++ i) four
    (behind fourth s i five six))))
