-- What a crash since an earlier moment may leave, over several calls.
use Rattle.std.proofs.Common.{inl, inr, arith}
use Rattle.vod_deck.specs.Outcomes.{Outcome, View, From, Elapses, SameOutcomes, Leaves}

-- before the first call
pub leaves-none : (old : View) (P : Outcome → Type 0) → Leaves old old P
leaves-none old P = record { later = omega arith; nothing_else = λ t c le left. inl left }

pub leaves-wider : (old new : View) (P Q : Outcome → Type 0) → Leaves old new P → ((c : Outcome) → P c → Q c) → Leaves old new Q
leaves-wider old new P Q leaves wider = record {
  later = leaves.later;
  nothing_else = λ t c le left. elim (leaves.nothing_else t c le left) [ inl since ↦ inl since | inr here ↦ inr (wider c here) ];
}

-- one more call
pub leaves-call : (old mid new : View) (P : Outcome → Type 0) (step : Outcome → Outcome → Type 0) → Leaves old mid P → Elapses mid new step →
    ((c : Outcome) → From mid.may_leave step c → P c) → Leaves old new P
leaves-call old mid new P step leaves time here = record {
  later = omega (arith, leaves.later, time.later);
  nothing_else = λ t c le left.
      elim (time.nothing_else t c (omega (arith, le, leaves.later)) left) [
        | inl since ↦ leaves.nothing_else t c le since
        | inr from ↦ inr (here c from)
      ];
}

-- one more call that left the outcomes
pub leaves-same : (old mid new : View) (P : Outcome → Type 0) → Leaves old mid P → SameOutcomes mid new → Leaves old new P
leaves-same old mid new P leaves same = record {
  later = omega (arith, leaves.later, same.moment);
  nothing_else = λ t c le left. leaves.nothing_else t c le (same.left_since t c left);
}

-- more calls
pub leaves-then : (old mid new : View) (P : Outcome → Type 0) → Leaves old mid P → Leaves mid new P → Leaves old new P
leaves-then old mid new P first second = record {
  later = omega (arith, first.later, second.later);
  nothing_else = λ t c le left.
      elim (second.nothing_else t c (omega (arith, le, first.later)) left) [
        | inl since ↦ first.nothing_else t c le since
        | inr here ↦ inr here
      ];
}
