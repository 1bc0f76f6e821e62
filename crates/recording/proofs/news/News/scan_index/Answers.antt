use Rattle.std.proofs.Common.{◌≡◌, ◌≤◌, ◌<◌, arith, ap, sym, ◌∙◌}
use Rattle.std.proofs.lemmas.Bool.Decides.{nat_tests}
use Rattle.pages.specs.Summary.{in_use}
use Rattle.pages.specs.ViewLaws.{used_entry}
use Rattle.recording.specs.LookSteps.{met_there, passed_over, strong_met, weak_passed}
use Rattle.recording.specs.ScanSteps.{scan_none, index_scanned, scan_more}
use Rattle.recording.specs.Views.{sought_of}
use Rattle.recording.specs.WithinLaws.{still_within}
use Rattle.rules.specs.Scan.{candidate}
use Rattle.std.specs.Prelude.{leb}
use Rattle.recording.proofs.news.News.scan_index.Goals as goal
use Rattle.recording.proofs.news.News.scan_index.Goals.{then-touches_strongest, else-touches_strongest, then-self-weakest, else-self-weakest}

pub loop-i-init : goal.loop-i-init
loop-i-init c = scan_none 1 c.args.self.now.gust (sought_of c.args.s)

pub loop-i-preserved : goal.loop-i-preserved
loop-i-preserved c =
    let v = c.args.self.now.gust in
    let e = c.entry-entry.result in
    let s = sought_of c.loop-i.found in
    let within = still_within _ 1 v _ (sought_of c.args.s) s c.requires c.loop-i.invariant in
    let m : sought_of c.if-touches_strongest.found ≡ candidate (leb v e.gust) e.strongest s =
    elim c.if-touches_strongest.branch [
      | then-touches_strongest w ↦ ap sought_of w.found-is ∙ met_there v _ _ _ _ s _ w.gust.ensures w.strongest.ensures w.meet-found.ensures
      | else-touches_strongest w ↦ ap sought_of w.found-is ∙ passed_over _ _ _ s within (sym c.touches_strongest.ensures ∙ w.if-touches_strongest.false)
    ] in
    let r : sought_of c.if-self-weakest.found ≡ candidate (leb v e.weakest) e.union (sought_of c.if-touches_strongest.found) =
    elim c.if-self-weakest.branch [
      | then-self-weakest w ↦
          let reaches : v ≤ c.weakest.result = grind (arith, nat_tests, w.if-self-weakest.true) in
          ap sought_of w.found-is ∙ strong_met v _ _ _ _ _ _ c.weakest.ensures reaches w.union.ensures w.meet-found-then-self-weakest.ensures
      | else-self-weakest w ↦
          let weak : c.weakest.result < v = grind (arith, nat_tests, w.if-self-weakest.false) in
          ap sought_of w.found-is ∙ weak_passed v _ _ _ _ c.weakest.ensures weak
    ] in
    let scanned = index_scanned 1 v e s _ _ (omega arith) m r in
    scanned ∙ scan_more 1 v c.loop-i.i (in_use c.args.page.now) e (sought_of c.args.s) s
    (omega arith) (c.entry-entry.ensures ∙ sym (used_entry c.args.page.now c.loop-i.i (omega arith))) c.loop-i.invariant
