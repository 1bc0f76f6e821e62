use mathlib.Core.Path.{ap}
use Rattle.pages.specs.Layout.{pages_of}
use Rattle.recording.specs.LowSteps.{low_but}
use Rattle.recording.specs.Views.{became_of}
use Rattle.recording.specs.LyingSteps.{exact_page, exact_tidy_there, came_standing_here, came_split_here}
use Rattle.recording.specs.TableSteps.{still_fits}
use Rattle.recording.proofs.settle.come_back.Goals as goal

pub append_at-requires : goal.append_at-requires
append_at-requires c = (
  search still_fits,
  exact_tidy_there c.args.t.now c.make_exact-in-Some.new.t c.args.p c.args.i c.requires.1 c.make_exact-in-Some.ensures,
  rw c.from.ensures (low_but (pages_of c.args.t.now) (pages_of c.make_exact-in-Some.new.t) c.args.p _ _ (exact_page (pages_of c.args.t.now) c.args.p c.args.i)
      c.make_exact-in-Some.ensures.pages_are (ap became_of c.in-Some.is) c.requires.2),
)

pub returns-in-None : goal.returns-in-None
returns-in-None c = search came_standing_here

pub returns-in-Some : goal.returns-in-Some
returns-in-Some c = search came_split_here
