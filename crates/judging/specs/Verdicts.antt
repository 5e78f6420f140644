-- Two listings compared line by line.
use Rattle.std.specs.Prelude.{◌≡◌, ◌≢◌, ℕ, ◌+◌, ◌-◌, ◌<◌, if◌then◌else◌, List, [], ◌∷◌, length, take, slice_get}
use Rattle.std.specs.Str.{bytes_eq}
use Rattle.judging.specs.declared.comparing.Difference.{Difference}
use Rattle.judging.specs.declared.comparing.Verdict.{Verdict}
use Rattle.judging.specs.declared.comparing.Verdict.TheVariants.{Agree, Differ}
use Rattle.judging.specs.declared.fields.Field.{Field}
use Rattle.judging.specs.declared.fields.Field.TheVariants.{Line}
use Rattle.judging.specs.Fields.{field_of}
use Rattle.judging.specs.Lines.{lines_in, line_from}

abbrev pub differing : ℕ → ℕ → Field → Verdict
differing line start field = Differ (record { line = line; start = start; field = field })

-- lines compared one after another, the first of them with this number and begun at this place
abbrev pub verdict_from : ℕ → ℕ → List (List ℕ) → List (List ℕ) → Verdict
verdict_from line start [] [] = Agree
verdict_from line start [] (b ∷ theirs) = differing line start Line
verdict_from line start (a ∷ ours) [] = differing line start Line
verdict_from line start (a ∷ ours) (b ∷ theirs) =
    if bytes_eq a b
    then verdict_from (line + 1) (start + length a) ours theirs
    else differing line start (field_of a b)

-- the first line that is not the same in two listings, if there is one
unfoldable pub verdict_of : List ℕ → List ℕ → Verdict
verdict_of ours theirs = verdict_from 1 0 (lines_in ours) (lines_in theirs)

abbrev pub IsAgree : Verdict → Type 0
IsAgree Agree = Unit {0}
IsAgree (Differ d) = ⊥

-- all lines before the difference are the same, and its own line is not
pub record IsFirst (ours theirs : List ℕ) (d : Difference) : Type 0 where
  pub number : 0 < d.line
  pub before : take (d.line - 1) (lines_in ours) ≡ take (d.line - 1) (lines_in theirs)
  pub our_line : slice_get (lines_in ours) (d.line - 1) ≡ line_from d.start ours
  pub their_line : slice_get (lines_in theirs) (d.line - 1) ≡ line_from d.start theirs
  pub not_same : line_from d.start ours ≢ line_from d.start theirs

abbrev pub OnDiffer : Verdict → (Difference → Type 0) → Type 0
OnDiffer Agree P = Unit {0}
OnDiffer (Differ d) P = P d
