use Rattle.std.proofs.Common.{ℕ, Option, refl, sym, ap}
use Rattle.std.specs.Option.{unwrap_or}
use Rattle.serving.specs.ServingLaws.{never_both, turned}
use Rattle.serving.proofs.turn.Goals as goal

pub returns-then-not-hand_over : goal.returns-then-not-hand_over
returns-then-not-hand_over g c =
    turned _ _ _ _ _ c.take_in-came.ensures _ _ _ (rw c.unwrap_or-n.ensures at c.feed.ensures) _ c.hand_over.ensures _ (sym c.if-not-hand_over.true) (λ e. never_both _ e refl)

pub returns-in-Some-eq0 : goal.returns-in-Some-eq0
returns-in-Some-eq0 g c =
    turned _ _ _ _ _ c.take_in-came.ensures _ _ _ (rw c.unwrap_or-n.ensures at c.feed.ensures) _ c.hand_over.ensures _ (sym c.if-not-hand_over.false) (λ e. rw c.in-Some-eq0.is (rw c.in-Some-eq0.is at c.in-Some-eq0.field-0-test))

pub returns-in-Some : goal.returns-in-Some
returns-in-Some g c =
    turned _ _ _ _ _ c.take_in-came.ensures _ _ _ (rw c.unwrap_or-n.ensures at c.feed.ensures) _ c.hand_over.ensures _ (sym c.if-not-hand_over.false) (λ e. never_both _ e refl)

pub returns-in-None : goal.returns-in-None
returns-in-None g c =
    turned _ _ _ _ _ c.take_in-came.ensures _ _ _ (rw c.unwrap_or-n.ensures at c.feed.ensures) _ c.hand_over.ensures _ (sym c.if-not-hand_over.false)
    (λ e. ap (λ (o : Option ℕ). unwrap_or o 0) c.in-None.is)
