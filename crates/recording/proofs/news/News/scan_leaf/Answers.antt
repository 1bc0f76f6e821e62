use Rattle.std.proofs.Common.{◌≡◌, arith, ap, sym, ◌∙◌}
use Rattle.pages.specs.Summary.{in_use}
use Rattle.pages.specs.ViewLaws.{used_entry}
use Rattle.recording.specs.LookSteps.{met_there, passed_over}
use Rattle.recording.specs.ScanSteps.{scan_none, leaf_scanned, scan_more}
use Rattle.recording.specs.Views.{sought_of}
use Rattle.recording.specs.WithinLaws.{still_within}
use Rattle.rules.specs.Scan.{scan_entry}
use Rattle.recording.proofs.news.News.scan_leaf.Goals as goal
use Rattle.recording.proofs.news.News.scan_leaf.Goals.{then-touches_place, else-touches_place}

pub loop-i-init : goal.loop-i-init
loop-i-init c = scan_none 0 c.args.self.now.gust (sought_of c.args.s)

pub loop-i-preserved : goal.loop-i-preserved
loop-i-preserved c =
    let v = c.args.self.now.gust in
    let e = c.entry-entry.result in
    let s = sought_of c.loop-i.found in
    let within = still_within _ 0 v _ (sought_of c.args.s) s c.requires c.loop-i.invariant in
    let scanned : sought_of c.if-touches_place.found ≡ scan_entry 0 v e s =
    leaf_scanned v e s _ (elim c.if-touches_place.branch [
      | then-touches_place w ↦ ap sought_of w.found-is ∙ met_there v _ _ _ _ s _ w.gust.ensures w.place.ensures w.meet-found.ensures
      | else-touches_place w ↦ ap sought_of w.found-is ∙ passed_over _ _ _ s within (sym c.touches_place.ensures ∙ w.if-touches_place.false)
    ]) in
    scanned ∙ scan_more 0 v c.loop-i.i (in_use c.args.page.now) e (sought_of c.args.s) s
    (omega arith) (c.entry-entry.ensures ∙ sym (used_entry c.args.page.now c.loop-i.i (omega arith))) c.loop-i.invariant
