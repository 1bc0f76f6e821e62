-- What an answer means: the box-max (Zhang and Tsotras) over a list of records, and the pages whose boxes touch the question.
use Rattle.std.specs.Prelude.{ℕ, ◌+◌, max, cond, List, [], ◌∷◌, drop}
use Rattle.ground.specs.Boxes.{touches}
use Rattle.ground.specs.declared.boxes.Box.{Box}
use Rattle.pages.specs.Summary.{in_use, covering}
use Rattle.pages.specs.declared.Entry.{Entry}
use Rattle.pages.specs.declared.Page.{Page}
use Rattle.pages.specs.declared.Small.{Small}
use Rattle.wellformed.specs.Counting.{sum_of}
use Rattle.wellformed.specs.WellFormed.{page, reached}

-- The greatest of f over a list, 0 if it is empty.
unfoldable pub greatest : (Entry → ℕ) → List Entry → ℕ
greatest f [] = 0
greatest f (e ∷ es) = max (f e) (greatest f es)

-- Rule 1.22: a gust v over a box scores v + 1 if the box touches the question, else 0, which is Nothing.
unfoldable pub score : Box → Box → ℕ → ℕ
score q b v = cond (touches q b) (v + 1) 0

-- Rule 11.3: the box-max over records.
abbrev pub box_max : Box → List Entry → ℕ
box_max q = greatest (λ e. score q e.place e.gust)

-- A page's box is the smallest that covers every entry of it. 1 if it touches the question, else 0.
unfoldable pub page_touches : List Page → Box → ℕ → ℕ
page_touches ps q p = cond (touches q (covering (in_use (page ps p)))) 1 0

-- The pages of the book other than the root, and how many of them have boxes that touch the question.
abbrev pub other_pages : List Page → Small → List ℕ
other_pages ps s = drop 1 (reached ps s)

abbrev pub touching_pages : List Page → Box → List ℕ → ℕ
touching_pages ps q = sum_of (page_touches ps q)
