-- The digits of a word, one after the other.
use Rattle.std.proofs.Common.{◌≡◌, ℕ, ◌+◌, ◌-◌, ◌*◌, ◌^◌, ◌<◌, ◌&&◌, ◌∷◌, length, get_or, drop, ap, add-one, drop-cons}
use Rattle.std.proofs.Math.Nat.{pow-succ'}
use Rattle.lines.specs.Lines.{Word, is_digit, are_digits, number_from}

pub digit_at :
    (w : Word) (i value : ℕ) → i < length w
    → (are_digits (drop i w) ≡ is_digit (get_or w i 0) && are_digits (drop (i + 1) w)) × (number_from value (drop i w) ≡ number_from (10 * value + (get_or w i 0 - 48)) (drop (i + 1) w))
unfolding are_digits number_from
digit_at w i value h =
    let on : drop i w ≡ get_or w i 0 ∷ drop (i + 1) w = rw add-one (drop-cons w i 0 h) in
    (ap are_digits on, ap (number_from value) on)

pub tenfold : (i : ℕ) → 10 ^ (i + 1) ≡ 10 * 10 ^ i
tenfold i = rw add-one (pow-succ' 10 i)
