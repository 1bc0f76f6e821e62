-- What is printed: digits, and bytes after bytes.
use Rattle.std.proofs.Common.{◌≡◌, ℕ, zero, suc, ◌+◌, ◌-◌, ◌/◌, ◌%◌, ◌<◌, ◌≤◌, true, false, List, [], ◌∷◌, ◌++◌, Result, length, take, drop, refl, sym, ap, ◌∙◌, ⊎_elim, arith, append_assoc, append-nil, length-append, length-take, length-drop, drop-drop, le-leb}
use Rattle.std.proofs.Math.ListN.{set, length-set, drop_of_length-le}
use Rattle.std.proofs.Math.Seq.{drop-cons, drop-set-lt, get_or-set_same, append_snoc, take_at, drop_at, length-take-le}
use Rattle.std.proofs.lemmas.Bool.{lt-leb}
use Rattle.ground.specs.Tests.{below_or_not}
use Rattle.lines.specs.NumberLaws.{one_digit, more_digits, decimal_most}
use Rattle.lines.specs.Printing.{decimal_of, decimal, line_end, put, longest_answer, fits, buffer_after, place_after, Prints}
use Rattle.lines.specs.Filling.{last_digits, Puts, Said}
use Rattle.lines.specs.declared.printing.Answer.{Answer}
use Rattle.lines.specs.declared.text.Text.{Text}
use borrow.Rule.Slice.PartMut.{put_mid, mid_of}

-- digits written from the last one on
pub none_filled : (n : ℕ) (out : List ℕ) → last_digits (length out) n ++ drop (length out) out ≡ last_digits (length out) n
none_filled n out = rw (drop_of_length-le out {i = length out} (omega arith)) (append-nil (last_digits (length out) n))

pub one_filled : (out : List ℕ) (k rest : ℕ) → 0 < k → k ≤ length out → last_digits (k - 1) (rest / 10) ++ drop (k - 1) (set out (k - 1) (48 + rest % 10)) ≡ last_digits k rest ++ drop k out
unfolding last_digits
one_filled out zero rest h less = absurd (omega arith)
one_filled out (suc j) rest h less =
    let d : ℕ = 48 + rest % 10 in
    let back : suc j - 1 ≡ j = omega arith in
    let there : j < length out = omega arith in
    let there' : j < length (set out j d) = omega (arith, length-set out j d) in
    let from : drop j (set out j d) ≡ d ∷ drop (suc j) out =
    drop-cons (set out j d) j 0 there' ∙ rw (get_or-set_same out j d 0 there, drop-set-lt (suc j) out j d (omega arith)) in
    rw (back, from) (sym (append_snoc (last_digits j (rest / 10)) d (drop (suc j) out)))

pub all_filled : (out : List ℕ) (k rest : ℕ) → k ≤ 0 → out ≡ last_digits k rest ++ drop k out
unfolding last_digits
all_filled out zero rest h = refl
all_filled out (suc k) rest h = absurd (omega arith)

-- the digits that a number has are its last ones
pub all_digits : (m n : ℕ) → decimal_of m n ≡ last_digits (length (decimal_of m n)) n
unfolding decimal_of last_digits
all_digits zero n = refl
all_digits (suc m) n =
    ⊎_elim
    (λ (h : n < 10). let same : n % 10 ≡ n = omega arith in rw (one_digit m n h, same))
    (λ (h : 10 ≤ n).
    let long : length (decimal_of m (n / 10) ++ ((48 + n % 10) ∷ [])) ≡ suc (length (decimal_of m (n / 10))) = omega (arith, length-append (decimal_of m (n / 10)) ((48 + n % 10) ∷ [])) in
    rw (more_digits m n h, long, ← all_digits m (n / 10)))
    (below_or_not n 10)

-- bytes put after bytes
pub put_length : (buffer : List ℕ) (p : ℕ) (bytes : List ℕ) → p + length bytes ≤ length buffer → length (put buffer p bytes) ≡ length buffer
unfolding put
put_length buffer p bytes h =
    omega (arith, length-append (take p buffer) (bytes ++ drop (p + length bytes) buffer), length-append bytes (drop (p + length bytes) buffer), length-take p buffer, length-drop (p + length bytes) buffer)

put_put : (buffer : List ℕ) (p : ℕ) (xs ys : List ℕ) → p + length xs + length ys ≤ length buffer → put (put buffer p xs) (p + length xs) ys ≡ put buffer p (xs ++ ys)
unfolding put
put_put buffer p xs ys h =
    let q : ℕ = p + length xs in
    let head : length (take p buffer ++ xs) ≡ q = omega (arith, length-append (take p buffer) xs, length-take p buffer) in
    let regroup : take p buffer ++ (xs ++ drop q buffer) ≡ (take p buffer ++ xs) ++ drop q buffer = sym (append_assoc (take p buffer) xs (drop q buffer)) in
    let front : take q (take p buffer ++ (xs ++ drop q buffer)) ≡ take p buffer ++ xs = rw regroup (take_at (take p buffer ++ xs) (drop q buffer) q head) in
    let back : drop (q + length ys) (take p buffer ++ (xs ++ drop q buffer)) ≡ drop (q + length ys) buffer =
    rw regroup (sym (drop-drop (length ys) q ((take p buffer ++ xs) ++ drop q buffer)) ∙ ap (λ (l : List ℕ). drop (length ys) l) (drop_at (take p buffer ++ xs) (drop q buffer) q head) ∙ drop-drop (length ys) q buffer) in
    let long : p + length (xs ++ ys) ≡ q + length ys = omega (arith, length-append xs ys) in
    rw (front, back, long) (append_assoc (take p buffer) xs (ys ++ drop (q + length ys) buffer) ∙ ap (λ (l : List ℕ). take p buffer ++ l) (sym (append_assoc xs ys (drop (q + length ys) buffer))))

pub puts_then : {xs ys : List ℕ} {p q r : Text} → Puts xs p q → Puts ys q r → r.at ≤ length p.out.now → Puts (xs ++ ys) p r
puts_then {xs} {ys} {p} {q} {r} h k room =
    record {
      buffer = k.buffer ∙ rw (h.buffer, h.past) (put_put p.out.now p.at xs ys (omega (arith, h.past, k.past)));
      past = omega (arith, h.past, k.past, length-append xs ys);
      long = k.long ∙ h.long;
    }

pub four_parts : (a b c d e : List ℕ) → (((a ++ b) ++ c) ++ d) ++ e ≡ a ++ (b ++ (c ++ (d ++ e)))
four_parts a b c d e = rw (append_assoc ((a ++ b) ++ c) d e, append_assoc (a ++ b) c (d ++ e)) (append_assoc a b (c ++ (d ++ e)))

-- a part of the buffer that was lent and filled
pub part_filled : (buffer part bytes : List ℕ) (p : ℕ) → part ≡ bytes → put_mid p (p + length bytes - p) buffer part ≡ put buffer p bytes
unfolding put
part_filled buffer part bytes p e =
    let long : p + length bytes - p ≡ length bytes = omega arith in
    rw (long, e, drop-drop (length bytes) p buffer)

pub number_filled :
    (buffer part : List ℕ) (p n count : ℕ) → p + 10 ≤ length buffer → count ≡ length (decimal n) → part ≡ last_digits (length (mid_of p (p + count - p) buffer)) n
    → put_mid p (p + count - p) buffer part ≡ put buffer p (decimal n)
number_filled buffer part p n count room e f =
    let long : length (mid_of p (p + count - p) buffer) ≡ length (decimal n) =
    length-take-le (p + count - p) (drop p buffer) (omega (arith, length-drop p buffer, decimal_most 10 n)) ∙ omega arith in
    rw e (part_filled buffer part (decimal n) p (f ∙ ap (λ (k : ℕ). last_digits k n) long ∙ sym (all_digits 10 n)))

-- an answer is printed, or there is no room
pub no_room : (said : Result Answer ℕ) (out : List ℕ) (place : ℕ) → length out - place < longest_answer → Prints said out out place place
unfolding buffer_after place_after
no_room said out place h =
    let none : fits (length out) place ≡ false = lt-leb (place + longest_answer) (length out) (omega arith) in
    record { buffer = rw none; past = rw none }

pub ended : {said : Result Answer ℕ} {p q r : Text} → longest_answer ≤ length p.out.now - p.at → Said said p q → q.at < p.at + longest_answer → Puts line_end q r → Prints said p.out.now r.out.now p.at r.at
unfolding buffer_after place_after
ended {said} {p} {q} {r} room h most e =
    let fit : fits (length p.out.now) p.at ≡ true = le-leb (p.at + longest_answer) (length p.out.now) (omega arith) in
    let all = puts_then h.puts e (omega (arith, e.past)) in
    record { buffer = rw (fit, ← h.but_end) all.buffer; past = rw (fit, ← h.but_end) all.past }
