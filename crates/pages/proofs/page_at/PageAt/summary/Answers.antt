use Rattle.std.proofs.Common.{◌∙◌, arith}
use Rattle.pages.specs.Summary.{summary_of}
use Rattle.pages.specs.GatherLaws.{summary_none}
use Rattle.pages.proofs.page_at.PageAt.summary.Goals as goal

pub returns-then-n-eq0 : goal.returns-then-n-eq0
unfolding summary_of
returns-then-n-eq0 c = c.empty_summary.ensures ∙ summary_none _ _ _ (omega arith)
