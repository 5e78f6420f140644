-- Making the trace of a recipe in an output.
use Rattle.std.specs.Prelude.{ℕ, ◌+◌, ◌*◌, Bool, if◌then◌else◌, ◌&&◌, List, length, Ok, Err, nat_le, nat_lt}
use Rattle.protocol.specs.declared.refusal.Refusal.TheVariants as refusal
use Rattle.trace.specs.declared.record.Record.{Record}
use Rattle.trace.specs.Writing.{written, trace_bytes, Closed}
use Rattle.recipe.specs.Draws.{records_of_recipe}

-- 1 to 2,000 draws, 1 to 4,194,304 words, 1 to 8 processors
abbrev pub lawful : ℕ → ℕ → ℕ → Bool
lawful draws words processors =
    nat_le 1 draws && nat_le draws 2000 && nat_le 1 words && nat_le words 4194304
    && nat_le 1 processors && nat_le processors 8

-- the trace of some records, without a note, at the start of an output that has room for it
abbrev pub recorded : List ℕ → ℕ → List Record → Closed
recorded output processors rs =
    let long = length rs * 16 + 8 in
    if nat_lt (length output) long
    then record { answer = Err refusal.Output; output = output }
    else record { answer = Ok long; output = written output 0 (trace_bytes processors rs) }

-- what loading from a recipe answers, and the output
abbrev pub recipe_rule : List ℕ → ℕ → ℕ → ℕ → ℕ → Closed
recipe_rule output start draws words processors =
    if lawful draws words processors
    then recorded output processors (records_of_recipe start draws words processors)
    else record { answer = Err refusal.Recipe; output = output }
