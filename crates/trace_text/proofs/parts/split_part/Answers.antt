use Rattle.std.proofs.Common.{◌≡◌, ◌∷◌, ◌+◌, ◌-◌, length, take, drop, sym, ap, ◌∙◌, rules}
use Rattle.std.proofs.lemmas.List.{drop_min, take_rest}
use Rattle.trace_text.specs.Parts.{parts}
use Rattle.trace_text.proofs.Splits.{parts_split}
use Rattle.trace_text.proofs.parts.split_part.Goals as goal

pub returns-clause-parts : goal.returns-clause-parts
returns-clause-parts c =
    let bytes = c.args.bytes.now in
    let s = c.args.separator in
    let place = c.place_of-place.ensures.place in
    let n = c.min-behind.result in
    let next = c.place_of-place.result + 1 in
    let behind : take (length bytes - n) (drop n bytes) ≡ drop next bytes
    = take_rest bytes n ∙ ap (λ m. drop m bytes) c.min-behind.ensures ∙ drop_min next bytes in
    parts_split s next bytes (search rules) (ap (λ p. p + 1) place)
    ∙ ap (λ p. take p bytes ∷ parts s (drop next bytes)) (sym place)
    ∙ ap (λ ys. take c.place_of-place.result bytes ∷ parts s ys) (sym behind)
