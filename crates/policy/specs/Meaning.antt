-- What a policy means: its numbers, and the way that it names.
use Rattle.std.specs.Prelude.{ℕ, ◌<◌, List, [], ◌∷◌}
use Rattle.policy.specs.declared.policy.Telling.{Telling}

-- `names` is the way for a processor and a column after any list of tellings still to come
pub record Choice : Type 0 where
  pub processors : ℕ
  pub columns : ℕ
  pub ways : ℕ
  pub names : List Telling → ℕ → ℕ → ℕ

pub record Lawful (c : Choice) : Type 0 where
  pub named :
      (later : List Telling) (processor column : ℕ) → processor < c.processors → column < c.columns
      → c.names later processor column < c.ways

-- what was to come after this telling is what is to come now
abbrev pub told : Telling → Choice → Choice
told telling c =
    record {
      processors = c.processors;
      columns = c.columns;
      ways = c.ways;
      names = λ later. c.names (telling ∷ later);
    }

-- what a list of tellings makes of a state, by what one makes of it
abbrev pub state_after : {S : Type 0} → (S → Telling → S) → S → List Telling → S
state_after step s [] = s
state_after step s (telling ∷ later) = state_after step (step s telling) later
