-- What is kept of the line so far with more bytes.
use Rattle.std.proofs.Common.{◌≡◌, ℕ, ◌+◌, ◌-◌, ◌≤◌, ◌<◌, min, List, ◌++◌, length, take, drop, ap, sym, ◌∙◌, ⊎_elim, append_assoc, length-append, arith, take_all, take_at}
use Rattle.std.proofs.Math.Seq.{take-append-add, take-append_seam, drop-append_seam, length-take-le}
use Rattle.std.proofs.lemmas.List.{drop-replicate}
use Rattle.std.specs.Prelude.{replicate}
use Rattle.ground.specs.Tests.{below_or_not}
use Rattle.counter.specs.Counter.{kept}
use Rattle.counter.specs.LineBuffer.{line_buffer, IsLine, line_length}
use borrow.Rule.Slice.PartMut.{put_mid}

-- They stand in the buffer as before.
pub pushed_line :
    (bytes part : List ℕ) (n k : ℕ) → IsLine bytes n → k ≤ 81 - n → length part ≡ k
    → IsLine (put_mid n (n + k - n) bytes part) (n + k)
pushed_line bytes part n k h room long =
    let front : List ℕ = take n bytes in
    let held : length front ≡ n = line_length bytes n h in
    let zeros : drop n bytes ≡ replicate (81 - n) 0 =
    ap (drop n) h.is
    ∙ ap (λ (m : ℕ). drop m (line_buffer front)) (sym held)
    ∙ drop-append_seam front (replicate (81 - length front) 0)
    ∙ ap (λ (m : ℕ). replicate (81 - m) 0) held in
    let rest : List ℕ = drop (n + k - n) (drop n bytes) in
    let more : n + k - n ≡ k = omega arith in
    let less : 81 - n - k ≡ 81 - (n + k) = omega arith in
    let padded : rest ≡ replicate (81 - (n + k)) 0 =
    ap (λ (m : ℕ). drop m (drop n bytes)) more ∙ ap (drop k) zeros ∙ drop-replicate k (81 - n) 0 ∙ ap (λ (m : ℕ). replicate m 0) less in
    let all : List ℕ = front ++ part in
    let joined : front ++ (part ++ rest) ≡ all ++ rest = sym (append_assoc front part rest) in
    let size : length all ≡ n + k = omega (arith, length-append front part, held, long) in
    let first : take (n + k) (front ++ (part ++ rest)) ≡ all = ap (take (n + k)) joined ∙ ap (λ (m : ℕ). take m (all ++ rest)) (sym size) ∙ take-append_seam all rest in
    record {
      most = omega (arith, h.most);
      is = joined ∙ ap (λ (l : List ℕ). all ++ l) (padded ∙ ap (λ (m : ℕ). replicate (81 - m) 0) (sym size)) ∙ ap line_buffer (sym first);
    }

pub pushed :
    (bytes line more part : List ℕ) (n k : ℕ) → length bytes ≡ 81 → n ≤ 81 → take n bytes ≡ line → k ≡ min (length more) (81 - n) → part ≡ take k more
    → take (n + k) (put_mid n (n + k - n) bytes part) ≡ kept (line ++ more)
pushed bytes line more part n k size most is e f =
    let held : length line ≡ n = sym (ap length is) ∙ length-take-le n bytes (omega arith) in
    let long : length part ≡ k = ap length f ∙ length-take-le k more (omega arith) in
    let same : take (81 - n) more ≡ part =
    ⊎_elim
    (λ (h : 81 - n < length more). ap (λ (m : ℕ). take m more) (let y : 81 - n ≡ k = omega arith in y) ∙ sym f)
    (λ (h : length more ≤ 81 - n). take_all (81 - n) more h ∙ sym (take_all k more (omega arith)) ∙ sym f)
    (below_or_not (81 - n) (length more)) in
    let rest : List ℕ = drop (n + k - n) (drop n bytes) in
    let all : take (length line + k) (line ++ (part ++ rest)) ≡ line ++ take k (part ++ rest) = take-append-add line (part ++ rest) k in
    let whole : take (length line + (81 - n)) (line ++ more) ≡ line ++ take (81 - n) more = take-append-add line more (81 - n) in
    let full : 81 ≡ length line + (81 - n) = omega arith in
    rw is
    (ap (λ (m : ℕ). take (m + k) (line ++ (part ++ rest))) (sym held) ∙ all ∙ ap (λ (x : List ℕ). line ++ x) (take_at part rest k long ∙ sym same) ∙ sym whole ∙ ap (λ (m : ℕ). take m (line ++ more)) (sym full))
