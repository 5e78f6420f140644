-- The policies keep the law of a policy.
use Rattle.std.specs.Prelude.{◌≡◌, ℕ, ◌+◌, ◌*◌, ◌<◌, ◌≤◌, List, [], ◌∷◌, fold, length, max, unwrap_or, Some, None, Option, ◌==◌, nat_lt, refl}
use Rattle.std.specs.List.{position_or_len}
use Rattle.std.proofs.Common.{arith, ◌∙◌, length-append, length-drop}
use Rattle.std.proofs.lemmas.Bool.{cond_both, cond-true, and_from, lt-ltb, ltb-true}
use Rattle.std.proofs.lemmas.List.{length-map, length-set, length-take}
use Rattle.std.proofs.lemmas.Nat.{mul-add-lt}
use Rattle.policy.specs.declared.extent.Extent.{Extent}
use Rattle.policy.specs.declared.policy.Telling.{Telling}
use Rattle.policy.specs.Ages.{mentioned, highest_way, column_start, ages_of, ages_told, ageing}
use Rattle.policy.specs.Extents.{has_column, has}
use Rattle.policy.specs.Meaning.{Lawful, state_after}
use Rattle.policy.specs.Turns.{turning}

pub lawful_turning : (e : Extent) (turns : List ℕ) → 1 ≤ e.ways → Lawful (turning e turns)
lawful_turning e turns some = record { named = λ later processor column p c. omega arith }

-- a table keeps its length
pub length-mentioned : (way : ℕ) (ages : List ℕ) → length (mentioned way ages) ≡ length ages
length-mentioned way ages = simp (length-set, length-map)

pub length-ages_told : (e : Extent) (ages : List ℕ) (t : Telling)
    → length (ages_told e ages t) ≡ length ages
length-ages_told e ages t =
    cond_both (has e t) _ ages (λ after. length after ≡ length ages)
    (λ h. simp (length-append, length-mentioned, length-take, length-drop) (omega arith))
    (λ h. refl)

pub length-after : (e : Extent) (ages : List ℕ) (later : List Telling)
    → length (state_after (ages_told e) ages later) ≡ length ages
length-after e ages [] = refl
length-after e ages (t ∷ later) =
    length-after e (ages_told e ages t) later ∙ length-ages_told e ages t

-- the window of a column lies in the table
pub column-within : (e : Extent) (n processor column : ℕ)
    → e.processors * e.columns * e.ways ≤ n → processor < e.processors → column < e.columns
    → column_start e processor column + e.ways ≤ n
column-within e n processor column room p c = grind (arith, mul-add-lt)

pub length-ages_of : (e : Extent) (ages : List ℕ) (processor column : ℕ)
    → e.processors * e.columns * e.ways ≤ length ages → processor < e.processors
    → column < e.columns → length (ages_of e processor column ages) ≡ e.ways
length-ages_of e ages processor column room p c =
    let within : column_start e processor column + e.ways ≤ length ages
    = column-within e (length ages) processor column room p c in
    simp (length-take, length-drop) (omega arith)

pub highest_way-below : (xs : List ℕ) → 0 < length xs → highest_way xs < length xs
highest_way-below xs some =
    let first = position_or_len (λ age. age == fold max 0 xs) xs in
    cond_both (nat_lt first (length xs)) (Some first) None
    (λ (found : Option ℕ). unwrap_or found 0 < length xs)
    (λ h. ltb-true first (length xs) h) (λ h. some)

pub lawful_ageing : (e : Extent) (ages : List ℕ) → e.processors * e.columns * e.ways ≤ length ages
    → (0 < e.processors → 1 ≤ e.ways) → Lawful (ageing e ages)
lawful_ageing e ages room some =
    record {
      named =
          λ later processor column p c.
          let after = state_after (ages_told e) ages later in
          let long : length (ages_of e processor column after) ≡ e.ways
          = length-ages_of e after processor column
          (omega (arith, length-after e ages later, room)) p c in
          let ways : 1 ≤ e.ways = some (omega (arith, p)) in
          let window = ages_of e processor column after in
          let below = highest_way-below window (omega (arith, long, ways)) in
          rw (cond-true (has_column e processor column)
          (highest_way (ages_of e processor column after)) 0
          (and_from _ _ (lt-ltb _ _ p) (lt-ltb _ _ c))) (omega (arith, below, long));
    }
