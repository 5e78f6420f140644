-- What is said of lines and memory outlasts the U of a clean block, by the command call's clause.
use Rattle.std.proofs.Common.{◌≡◌, true, List, refl, sym, subst}
use Rattle.protocol.specs.declared.line.Line.{Line}
use Rattle.memory.specs.Meaning.{Mem}
use Rattle.cluster.specs.Rule.{command_rule}
use Rattle.cluster.proofs.Unlocking.{leaves_clean}
use Rattle.law.specs.Unlocks.{Outlasts, CleanAsMemory, CleanUnlocksChangeNoCopy}

outlasts : (Said : List Line → Mem → Type 0) → Outlasts Said
outlasts Said m b q done u answer clean said =
    let o = command_rule m b q in
    let same = leaves_clean m b q o.answer o.board refl refl done u answer clean in
    subst (λ lines. Said lines o.board.memory) (sym same.lines)
    (subst (Said b.lines) (sym same.memory) said)

pub unlocked : CleanUnlocksChangeNoCopy
unlocked =
    record {
      tested = λ test. outlasts (λ lines mem. test lines mem ≡ true);
      clean_as_memory = outlasts CleanAsMemory;
    }
