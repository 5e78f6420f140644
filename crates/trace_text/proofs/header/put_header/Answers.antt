use Rattle.std.proofs.Common.{◌++◌, codes, ap, ◌∙◌, refl}
use Rattle.std.proofs.lemmas.Slice.{pushed}
use Rattle.text.proofs.Joins.{behind}
use Rattle.text.specs.Lines.{last_field}
use Rattle.trace_text.specs.Numbers.{decimal_text, without_zeros}
use Rattle.trace_text.proofs.header.put_header.Goals as goal

pub returns : goal.returns
returns c =
    let words = codes "trace version 1 processors " in
    let begun = c.extend_from_slice in
    let digits = c.without_zeros.ensures ∙ ap without_zeros c.decimal.ensures in
    behind c.args.out.now.items words (last_field (decimal_text c.args.processors))
    (pushed words refl c.in_ok-extend_from_slice.was begun.ensures.items)
    (c.in_ok-put_last.ensures ∙ ap (λ ds. begun.new.self.items ++ last_field ds) digits)
