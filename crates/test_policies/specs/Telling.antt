-- What a list of tellings makes of a policy's meaning.
use Rattle.std.specs.Prelude.{List}
use Rattle.policy.specs.declared.policy.Telling.{Telling}
use Rattle.policy.specs.Meaning.{Choice, told, state_after}

abbrev pub told_all : Choice → List Telling → Choice
told_all c tellings = state_after (λ before telling. told telling before) c tellings
