-- What the counter's functions promise settles their result: two that a promise allows are equal, every word of the table, every byte of the buffer, and the state.
use Rattle.std.specs.Prelude.{ℕ, List, ◌≡◌}
use Rattle.std.proofs.Common.{sym, ap, ◌∙◌}
use Rattle.index.specs.Run.{Book}
use Rattle.counter.specs.Counter.{Counter, fed, finished}
use Rattle.counter.specs.FeedSteps.{counter_of, Shows, Opens}
use Rattle.counter.specs.declared.State.{State}

same_shown : (x : Counter) (first t u out buffer : List ℕ) (s r : State) → Shows x first t out s → Shows x first u buffer r → (t ≡ u) × (out ≡ buffer) × (s ≡ r)
same_shown x first t u out buffer s r a b =
    let books = a.book ∙ sym b.book in
    let small = ap (λ (k : Book). k.small) books in
    let line = a.line ∙ sym b.line in
    let past = a.past ∙ sym b.past in
    (ap (λ (k : Book). k.table) books, a.buffer ∙ sym b.buffer, (λ i. record { small = small i; line = line i; printed = past i }))

module _ (t out : List ℕ) (s : State) (u w buffer bytes : List ℕ) (r q : State) where
  pub feed_settled : (input : List ℕ) → Shows (fed input (counter_of t out s)) out u buffer r → Shows (fed input (counter_of t out s)) out w bytes q → (u ≡ w) × (buffer ≡ bytes) × (r ≡ q)
  feed_settled input = same_shown (fed input (counter_of t out s)) out u w buffer bytes r q

  pub finish_settled : Shows (finished (counter_of t out s)) out u buffer r → Shows (finished (counter_of t out s)) out w bytes q → (u ≡ w) × (buffer ≡ bytes) × (r ≡ q)
  finish_settled = same_shown (finished (counter_of t out s)) out u w buffer bytes r q

pub open_settled : (t u w : List ℕ) (s r : State) → Opens t u s → Opens t w r → (u ≡ w) × (s ≡ r)
open_settled t u w s r a b = (a.table ∙ sym b.table, a.state ∙ sym b.state)
