use Rattle.std.proofs.Common.{◌≡◌, ◌+◌, ◌-◌, ◌≤◌, drop}
use Rattle.pages.specs.Layout.{pages_of}
use Rattle.pages.specs.Summary.{in_use}
use Rattle.asking.specs.Asking.{search_entry, search_page, in_order, found}
use Rattle.asking.specs.Seen.{most_best, searched_in}
use Rattle.asking.proofs.search.+search_entry_search_page.Given as goal

abbrev pub decreases-search_entry : goal.decreases-search_entry
decreases-search_entry l = l.level + l.level

abbrev pub decreases-search_page : goal.decreases-search_page
decreases-search_page l = l.level + l.level + 1

-- the entries that are left, from what has been found, come to what the page comes to
abbrev pub invariant-search_page-loop-i : goal.invariant-search_page-loop-i
invariant-search_page-loop-i l = record {
  index : 2 ≤ l.level;
  low : l.best ≤ most_best;
  rest :
      in_order (search_entry (search_page (pages_of l.t) l.q (l.level - 1) 1) l.q) (drop l.i (in_use l.page)) (found l.best l.opened)
      ≡ searched_in (pages_of l.t) l.q (l.level - 1) l.page l.fn.best l.fn.opened;
}
