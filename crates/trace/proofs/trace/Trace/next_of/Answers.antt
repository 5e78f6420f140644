use Rattle.std.proofs.Common.{◌≡◌, ℕ, ◌-◌, ◌*◌, ◌<◌, ◌==◌, Bool, [], length, drop, get_or, unwrap_or, ap, ◌∙◌, arith, rules}
use Rattle.std.proofs.lemmas.List.{get_or-drop, get_or-take}
use Rattle.protocol.proofs.Finding.{lowest_found}
use Rattle.trace.specs.Sizes.{records_in}
use Rattle.trace.specs.Traces.{is_of}
use Rattle.trace.proofs.Reading.{record_at}
use Rattle.trace.proofs.trace.Trace.next_of.Goals as goal

pub returns-clause-value : goal.returns-clause-value
returns-clause-value c =
    let bytes = c.args.self.now.records.now in
    let p = c.args.processor in
    let chunks = c.as_chunks.result.0.now in
    let told = c.as_chunks.ensures in
    let seen : ℕ → Bool = λ i. get_or (get_or chunks i []) 4 0 == p in
    let same : (i : ℕ) → i < length chunks → seen i ≡ is_of p bytes i
    = λ i below. ap (λ x. x == p)
    (ap (λ ys. get_or ys 4 0) (record_at bytes chunks i [] told.front told.front_len below)
    ∙ get_or-take 16 (drop (i * 16) bytes) 4 0 (omega arith) ∙ get_or-drop (i * 16) bytes 4 0) in
    let found =
    lowest_found (is_of p bytes) seen c.args.from (length chunks) (records_in bytes - c.args.from)
    (omega (arith, told.front_len)) same _ _ c.find.result c.find.ensures.ran
    (λ x q k. search rules) (λ x q k. search rules) in
    c.unwrap_or.ensures ∙ (λ k. unwrap_or (found k) (told.front_len k))
