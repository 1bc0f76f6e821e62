use Rattle.std.proofs.Common.{◌≡◌, ◌≤◌, ◌*◌}
use Rattle.pages.specs.Layout.{pages_of}
use Rattle.wellformed.specs.WellFormed.{every_below}
use Rattle.wellformed.specs.PassLaws.{page_passes}
use Rattle.wellformed.specs.MarkLaws.{CountedTo}
use Rattle.wellformed.specs.VerdictLaws.{held_in}
use Rattle.wellformed.proofs.verdict.pass_over.Given as goal

abbrev pub invariant-loop-p : goal.invariant-loop-p
invariant-loop-p l = record {
  all_pass : l.stands ≡ every_below (page_passes (pages_of l.t) l.s) l.p;
  all_held : l.held ≡ held_in l.t l.p;
  few : l.held ≤ 8 * l.p;
  counted : CountedTo (pages_of l.t) l.p l.marks;
}
