use Rattle.std.proofs.Common.{rules, arith}
use Rattle.std.proofs.lemmas.Grind.{common_steps}
use Rattle.strip.specs.StripCalls.{recorded, with_record}
use Rattle.strip.specs.KnownLaws.{strip_known}
use Rattle.strip.proofs.record.Goals as goal

pub returns-then-not-legal : goal.returns-then-not-legal
unfolding recorded
returns-then-not-legal c = search rules

pub returns-then-not-passes : goal.returns-then-not-passes
unfolding recorded
returns-then-not-passes c = search rules

pub returns-in_err-of : goal.returns-in_err-of
unfolding recorded
returns-in_err-of c = search rules

pub settle-requires : goal.settle-requires
settle-requires c =
    let known = strip_known _ c.in_ok-of.ensures.1 in
    (known.room, omega arith, c.make-made.ensures.few)

pub returns : goal.returns
unfolding recorded with_record
returns c = grind (arith, common_steps)
