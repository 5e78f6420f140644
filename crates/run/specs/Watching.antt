-- What a watcher sees of a run.
use Rattle.std.specs.Prelude.{◌≡◌, List, [], ◌∷◌}
use Rattle.text.specs.declared.step.Step.{Step}

-- each step in turn, by what a watcher makes of one
abbrev pub SeesAll : {W : Type 0} → (W → Step → W → Type 0) → W → List Step → W → Type 0
SeesAll sees before [] after = after ≡ before
SeesAll {W} sees before (step ∷ steps) after =
    (next : W) × (sees before step next × SeesAll sees next steps after)
