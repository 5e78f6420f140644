-- A refused call changes nothing.
use Rattle.std.proofs.Common.{◌≡◌, ℕ, ◌+◌, Bool, true, false, cond, List, [], ◌∷◌, Ok, Err, Result, sym, refl, ap, ◌∙◌}
use Rattle.protocol.specs.declared.command.Request.{Request}
use Rattle.protocol.specs.declared.line.Line.{Line}
use Rattle.protocol.specs.declared.measures.Measures.{Measures}
use Rattle.protocol.specs.declared.refusal.Direction.TheVariants.{Write}
use Rattle.protocol.specs.declared.refusal.Refusal.{Refusal}
use Rattle.protocol.specs.declared.refusal.Refusal.TheVariants.{Memory}
use Rattle.protocol.specs.Entries.{modified}
use Rattle.protocol.specs.Lines.{blank_line}
use Rattle.memory.specs.Meaning.{Mem, grants}
use Rattle.cluster.specs.Rule.{command_rule}
use Rattle.upkeep.specs.Counting.{lines_fit}
use Rattle.upkeep.specs.Draining.{behind, written_back, memory_back, unless_stopped, drain_from, costed, drain_rule}
use Rattle.law.specs.Calls.{command, drain, census, question, answered, said_by, left_by}
use Rattle.law.specs.Refusals.{refused_at_once, refused, RefusalsChangeNothing}
use Rattle.std.proofs.lemmas.Bool.{false≢true}
use Rattle.protocol.specs.declared.answer.Answer.{Answer}
use Rattle.cluster.specs.Board.{Board, Outcome}
use Rattle.law.proofs.Shapes as shapes
use Rattle.law.proofs.Shapes.{Shape, shape}

module _ (m : Measures) (b : Board) where
  by_shape : (q : Request) (o : Outcome Answer) → Shape m b q o → refused (answered o.answer) ≡ true
      → o.board ≡ b
  by_shape q o (shapes.refused e is) h = ap (λ x. x.board) is
  by_shape q o (shapes.waited w) h =
      absurd (false≢true (ap (λ x. refused (answered x.answer)) (sym w.is) ∙ h))
  by_shape q o (shapes.finished f) h =
      absurd (false≢true (ap (λ x. refused (answered x.answer)) (sym f.is) ∙ h))

-- only memory stops a drain that has begun
back_calm : (mem : Mem) (line : Line) → refused_at_once (written_back mem line) ≡ false
back_calm mem line = by_state (modified line.state) (grants mem line.block)
  where
    by_state : (b g : Bool) → refused_at_once {X = ℕ}
        (cond b (cond g (Ok 1) (Err (Memory line.block Write))) (Ok 0)) ≡ false
    by_state false g = refl
    by_state true true = refl
    by_state true false = refl

calm : (lines : List Line) (blocks : ℕ) (mem : Mem)
    → refused_at_once (drain_from blocks lines mem).answer ≡ false
calm [] blocks mem = refl
calm (line ∷ lines) blocks mem =
    by_back (written_back mem line) (back_calm mem line)
    (λ k. calm lines (blocks + k) (memory_back mem line))
  where
    by_back : (r : Result ℕ Refusal) → refused_at_once r ≡ false
        → ((k : ℕ) → refused_at_once (drain_from (blocks + k) lines (memory_back mem line)).answer
        ≡ false)
        → refused_at_once
        (unless_stopped r (record { answer = Ok blocks; lines = line ∷ lines; memory = mem })
        (λ k. behind blank_line (drain_from (blocks + k) lines (memory_back mem line)))).answer ≡ false
    by_back (Ok k) h rest = rest k
    by_back (Err e) h rest = h

costed_calm : (m : Measures) (r : Result ℕ Refusal) → refused_at_once (costed m r) ≡ refused_at_once r
costed_calm m (Ok n) = refl
costed_calm m (Err e) = refl

module _ (m : Measures) (b : Board) where
  drain_unchanged : refused (said_by m b drain) ≡ true → left_by m b drain ≡ b
  unfolding drain_rule
  drain_unchanged h = by_fit (lines_fit m b.lines) refl
    where
      by_fit : (f : Bool) → lines_fit m b.lines ≡ f → left_by m b drain ≡ b
      by_fit false e = rw (left_by, e) refl
      by_fit true e =
          absurd (false≢true
          (sym (costed_calm m (drain_from 0 b.lines b.memory).answer ∙ calm b.lines 0 b.memory)
          ∙ (rw e at h)))

pub unchanged : RefusalsChangeNothing
unchanged m b (command q) h = by_shape m b q (command_rule m b q) (shape m b q) h
unchanged m b drain h = drain_unchanged m b h
unchanged m b census h = refl
unchanged m b (question address) h = refl
