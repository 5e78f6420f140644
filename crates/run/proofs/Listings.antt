-- The lines of all steps that a watcher saw.
use Rattle.std.proofs.Common.{◌≡◌, ℕ, List, [], ◌∷◌, ◌++◌, sym, ap, ◌∙◌, append_assoc, append-nil}
use Rattle.text.specs.declared.step.Step.{Step}
use Rattle.text.specs.Lines.{line_of}
use Rattle.run.specs.Listing.{lines_of}
use Rattle.run.specs.Watching.{SeesAll}

pub seen_lines : {W : Type 0} (sees : W → Step → W → Type 0) (out : W → List ℕ)
    → ((a : W) (s : Step) (b : W) → sees a s b → out b ≡ out a ++ line_of s)
    → (steps : List Step) (a b : W) → SeesAll sees a steps b → out b ≡ out a ++ lines_of steps
seen_lines sees out told [] a b e = ap out e ∙ sym (append-nil (out a))
seen_lines sees out told (s ∷ ss) a b seen =
    seen_lines sees out told ss seen.0 b seen.1.1
    ∙ ap (λ l. l ++ lines_of ss) (told a s seen.0 seen.1.0)
    ∙ append_assoc (out a) (line_of s) (lines_of ss)
