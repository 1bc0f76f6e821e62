use mathlib.Core.Bool.{not}
use mathlib.Core.Path.{refl, ap}
use Rattle.ground.specs.Cutting.{Axis.east, Axis.north, Axis.day}
use Rattle.ground.specs.CutLaws.{Tested, cut_covered, cut_apart, cut_on, cut_none}
use Rattle.ground.proofs.boxes.Box.cut_by.Goals.{After-touches}
use Rattle.ground.proofs.boxes.Box.cut_by.Goals as goal

tested : (c : After-touches) → Tested c.args.candidate c.args.self c.covers-east.result c.covers-north.result c.covers-day.result c.touches.result
tested c = record { east = c.covers-east.ensures; north = c.covers-north.ensures; day = c.covers-day.ensures; touch = c.touches.ensures }

pub returns-then-east-north : goal.returns-then-east-north
returns-then-east-north c = cut_covered _ _ _ _ _ _ (record { east = c.covers-east.ensures; north = c.covers-north.ensures; day = c.covers-day.ensures; touch = refl }) c.if-east-north.true

pub returns-then-not-touches : goal.returns-then-not-touches
returns-then-not-touches c = cut_apart _ _ _ _ _ _ (tested (goal.at.returns-then-not-touches c).After-touches) c.if-east-north.false (ap not c.if-not-touches.true)

pub returns-then-north-day : goal.returns-then-north-day
returns-then-north-day c = cut_on _ _ _ _ _ _ (tested (goal.at.returns-then-north-day c).After-touches) east _ _ c.if-east-north.false (ap not c.if-not-touches.false) c.covers_one_end.ensures c.if-north-day.true c.leaves-east.ensures

pub returns-then-east-day : goal.returns-then-east-day
returns-then-east-day c = cut_on _ _ _ _ _ _ (tested (goal.at.returns-then-east-day c).After-touches) north _ _ c.if-east-north.false (ap not c.if-not-touches.false) c.covers_one_end-2.ensures c.if-east-day.true c.leaves-north.ensures

pub returns-then-east-north-2 : goal.returns-then-east-north-2
returns-then-east-north-2 c = cut_on _ _ _ _ _ _ (tested (goal.at.returns-then-east-north-2 c).After-touches) day _ _ c.if-east-north.false (ap not c.if-not-touches.false) c.covers_one_end-3.ensures c.if-east-north-2.true c.leaves-day.ensures

pub returns : goal.returns
returns c = cut_none _ _ _ _ _ _ (tested (goal.at.returns c).After-touches) _ _ _ c.if-east-north.false (ap not c.if-not-touches.false) c.covers_one_end.ensures c.if-north-day.false c.covers_one_end-2.ensures c.if-east-day.false c.covers_one_end-3.ensures c.if-east-north-2.false
