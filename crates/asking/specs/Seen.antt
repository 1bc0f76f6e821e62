-- How the code holds a search, and a page that is opened.
use Rattle.std.specs.Prelude.{ℕ, cond, List, Option, Some, None, fold}
use Rattle.ground.specs.declared.boxes.Box.{Box}
use Rattle.pages.specs.Summary.{in_use}
use Rattle.pages.specs.declared.Entry.{Entry}
use Rattle.pages.specs.declared.Page.{Page}
use Rattle.wellformed.specs.WellFormed.{page}
use Rattle.asking.specs.Asking.{Search, refused, found, raised, search_one, in_order, may_open, search_page}

-- A gust is a word, so the best is at most 65,536.
abbrev pub most_best : ℕ
most_best = 65_536

-- What a search has come to, as the code returns and leaves it: the best, if every page could be opened, and the pages opened.
abbrev pub seen : Option ℕ → ℕ → Search
seen None opened = refused
seen (Some best) opened = found best opened

-- The best after leaf entries in order.
abbrev pub raised_by : Box → List Entry → ℕ → ℕ
raised_by q es best = fold (λ most e. raised q e most) best es

-- Page p, if it may be opened.
abbrev pub opens : List Page → ℕ → ℕ → ℕ → ℕ → Option Page
opens ps level least p opened = cond (may_open ps level least p opened) (Some (page ps p)) None

-- The entries of a page, of the level one above n, searched in order.
abbrev pub searched_in : List Page → Box → ℕ → Page → ℕ → ℕ → Search
searched_in ps q n x best opened = in_order (search_one (search_page ps q n 1) q n) (in_use x) (found best opened)
