-- Step 4 in the code's order: the best of the places passed.
use Rattle.std.specs.Prelude.{ℕ, zero, suc, ◌+◌, ◌-◌, ◌≤◌, ◌<◌, Bool, true, false, cond, List, ◌≡◌, refl, ltb, length, get_or}
use Rattle.std.proofs.Common.{ap, ◌∙◌, arith}
use Rattle.ground.specs.BoxLaws.{size_grows, join_covers_first}
use Rattle.ground.specs.Boxes.{join, size}
use Rattle.ground.specs.declared.boxes.Box.{Box}
use Rattle.pages.specs.Layout.{zero_entry}
use Rattle.pages.specs.declared.Entry.{Entry}
use Rattle.split.specs.Split.{less_or_tie}
use Rattle.rules.specs.Recording.{growth, goes_before, least_grown, choose}
use Rattle.recording.specs.declared.choose.Choice.{Choice}

abbrev pub choice_of : Box → Entry → ℕ → Choice
choice_of b e i = record { at = i; growth = growth b e; size = size e.place }

-- the best of the places 0 to i
unfoldable pub best_to : Box → List Entry → ℕ → Choice
best_to b es i = let m = least_grown b es i in choice_of b (get_or es m zero_entry) m

pub grows : (b p : Box) → size p ≤ size (join p b)
grows b p = size_grows (join p b) p (join_covers_first p b)

pub choice_is : (b : Box) (e : Entry) (i j s g : ℕ) → j ≡ size (join e.place b) → s ≡ size e.place → g ≡ j - s → ◌≡◌ {A = Choice} (record { at = i; growth = g; size = s }) (choice_of b e i)
unfolding growth
choice_is b e i j s g p q r = cc

pub best_first : (b : Box) (es : List Entry) (e : Entry) (c : Choice) → e ≡ get_or es 0 zero_entry → c ≡ choice_of b e 0 → c ≡ best_to b es 0
unfolding best_to least_grown
best_first b es e c d q = q ∙ ap (λ x. choice_of b x 0) d

pub best_more : (b : Box) (es : List Entry) (i : ℕ) (e : Entry) (best later r : Choice) → e ≡ get_or es i zero_entry → 0 < i → later ≡ choice_of b e i → r ≡ cond (less_or_tie later.growth best.growth (ltb later.size best.size)) later best
    → best ≡ best_to b es (i - 1) → r ≡ best_to b es (i + 1 - 1)
unfolding best_to least_grown goes_before
best_more b es zero e best later r d o l q h = absurd (omega arith)
best_more b es (suc i) e best later r d o l q h =
    let z : suc i - 1 ≡ i = omega arith in
    let y : suc i + 1 - 1 ≡ suc i = omega arith in
    let m = least_grown b es i in
    let g : best ≡ choice_of b (get_or es m zero_entry) m = rw z at h in
    rw y (q ∙ ap (λ x. cond (less_or_tie x.growth best.growth (ltb x.size best.size)) x best) (l ∙ ap (λ x. choice_of b x (suc i)) d)
    ∙ ap (λ x. cond (less_or_tie (growth b (get_or es (suc i) zero_entry)) x.growth (ltb (size (get_or es (suc i) zero_entry).place) x.size)) (choice_of b (get_or es (suc i) zero_entry) (suc i)) x) g
    ∙ by_test (less_or_tie (growth b (get_or es (suc i) zero_entry)) (growth b (get_or es m zero_entry)) (ltb (size (get_or es (suc i) zero_entry).place) (size (get_or es m zero_entry).place))) m)
  where
    by_test : (t : Bool) (m : ℕ) → cond t (choice_of b (get_or es (suc i) zero_entry) (suc i)) (choice_of b (get_or es m zero_entry) m) ≡ choice_of b (get_or es (cond t (suc i) m) zero_entry) (cond t (suc i) m)
    by_test true m = refl
    by_test false m = refl

-- after the loop: none, or all places passed
pub best_all : (b : Box) (es : List Entry) (n i : ℕ) (best : Choice) → n ≡ length es → n ≤ i → (1 ≤ n → i ≤ n) → (n ≡ 0 → best.at ≡ 0) → (0 < n → best ≡ best_to b es (i - 1)) → best.at ≡ choose b es
unfolding best_to choose least_grown
best_all b es zero i best e l m none some = let z : length es - 1 ≡ 0 = omega arith in rw z (none refl)
best_all b es (suc n) i best e l m none some = let z : i - 1 ≡ length es - 1 = omega (arith, m (omega arith)) in ap (λ c. c.at) (some (omega arith)) ∙ ap (least_grown b es) z

pub grown_is : (b p : Box) (s g : ℕ) → s ≡ size p → g ≡ size (join p b) → s ≤ g
grown_is b p s g q h = omega (arith, grows b p)

pub choice_made : (b : Box) (e : Entry) (p : Box) (i s g : ℕ) → p ≡ e.place → s ≡ size p → g ≡ size (join p b) → ◌≡◌ {A = Choice} (record { at = i; growth = g - s; size = s }) (choice_of b e i)
choice_made b e p i s g d q r = choice_is b e i g s (g - s) (r ∙ ap (λ x. size (join x b)) d) (q ∙ ap size d) refl

pub choose_none : (b : Box) (es : List Entry) (n : ℕ) → n ≡ length es → n ≡ 0 → 0 ≡ choose b es
unfolding choose least_grown
choose_none b es n e z = let y : length es - 1 ≡ 0 = omega arith in rw y
