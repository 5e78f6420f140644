-- Which processors wait.
use Rattle.std.specs.Prelude.{◌≡◌, ℕ, zero, suc, ◌+◌, ◌%◌, ◌<◌, Bool, false, if◌then◌else◌, List, [], ◌∷◌, length, get_or, is_some, Some, None, Ok, Err, Option, Result, ◌==◌, nat_lt, slice_index_or, slice_set}
use Rattle.protocol.specs.declared.answer.Answer.{Answer}
use Rattle.protocol.specs.declared.answer.Answer.TheVariants.{Done, Wait}
use Rattle.protocol.specs.declared.measures.Measures.{Measures}
use Rattle.protocol.specs.declared.refusal.Refusal.{Refusal}
use Rattle.cluster.specs.declared.cluster.Processor.{Processor}
use Rattle.cluster.specs.declared.cluster.Cluster.{Cluster}
use Rattle.cluster.specs.Making.{resting}
use Rattle.cluster.specs.Tables.{map_from}

-- the block that a processor waits for; one that the geometry does not have never waits
abbrev pub awaited_in : Measures → List Processor → ℕ → Option ℕ
awaited_in m ps processor =
    if nat_lt processor m.processors then (get_or ps processor resting).waits_for else None

abbrev pub awaited : Cluster → ℕ → Option ℕ
awaited c processor = awaited_in c.geometry.measures c.processors processor

pub record Ready (ps : List Processor) (processor : ℕ) : Type 0 where
  pub listed : processor < length ps
  pub waits_not : (get_or ps processor resting).waits_for ≡ None

-- how many do not wait
abbrev pub not_waiting : List Processor → ℕ
not_waiting [] = 0
not_waiting (p ∷ ps) = (if is_some p.waits_for then 0 else 1) + not_waiting ps

-- how many of the first n do not wait
abbrev pub idle : ℕ → List Processor → ℕ
idle zero ps = 0
idle (suc n) [] = 0
idle (suc n) (p ∷ ps) = (if is_some p.waits_for then 0 else 1) + idle n ps

abbrev pub waiting_for : Processor → ℕ → Processor
waiting_for p block = record { turn = p.turn; waits_for = Some block }

abbrev pub waits_for : ℕ → Option ℕ → Bool
waits_for block None = false
waits_for block (Some awaits) = awaits == block

abbrev pub woken : ℕ → Processor → Processor
woken block p =
    if waits_for block p.waits_for then record { turn = p.turn; waits_for = None } else p

-- every processor that waits for the block stops waiting
abbrev pub all_woken : ℕ → List Processor → List Processor
all_woken block ps = map_from (λ place. woken block) 0 ps

-- the turn goes on to the next way
abbrev pub raised : ℕ → Processor → Processor
raised ways p = record { turn = (p.turn % ways + 1) % ways; waits_for = p.waits_for }

abbrev pub turn_raised : ℕ → List Processor → ℕ → List Processor
turn_raised ways ps processor =
    slice_set ps processor (raised ways (slice_index_or ps processor resting))

-- a command that waits leaves fewer processors that do not
abbrev pub WaitsMore : Result Answer Refusal → List Processor → List Processor → Type 0
WaitsMore (Ok (Done done)) before after = Unit {0}
WaitsMore (Ok (Wait hit)) before after = not_waiting after < not_waiting before
WaitsMore (Err e) before after = Unit {0}

-- the same of the first n processors
abbrev pub FewerIdle : ℕ → Result Answer Refusal → List Processor → List Processor → Type 0
FewerIdle n (Ok (Done done)) before after = Unit {0}
FewerIdle n (Ok (Wait hit)) before after = idle n after < idle n before
FewerIdle n (Err e) before after = Unit {0}
