-- A limit price in its two parts: raised so that none is negative, it is 100 times its whole part, raised, and its hundredths (`price_raised`). Equal
-- prices have equal parts (`equal_prices`).
use Rattle.std.specs.Prelude.{◌≡◌, true, ℕ, suc, ◌+◌, ◌-◌, ◌*◌, ◌≤◌, ◌<◌, ℤ, pos, negsuc, nat_abs, ◌*ℤ◌}
use Rattle.std.proofs.Common.{sym, ap, ◌∙◌, subst, arith}
use Rattle.definitions.specs.Limits.{whole_limit, hundredths_limit, hundred, price_limit}
use Rattle.definitions.specs.Book.{Book, whole_price, in_hundredths, price}
use Rattle.definitions.specs.Calls.{price_in_range}
use Rattle.laws.specs.AcceptedBook.{Sound, raised_whole, hundredths_part, raised_price, below_zero, sound_price}
use Rattle.theory.specs.Integers.{RaisedBy, raised_by, add_read, multiply_read}

parts_raised : (c : ℕ) (w : ℤ) (r k : ℕ) → RaisedBy c w r → RaisedBy (hundred * c) (in_hundredths w (pos k)) (hundred * r + k)
parts_raised c w r k e = omega (arith, add_read (w *ℤ pos hundred) (pos k), multiply_read w hundred)

module _ (B : Book) (ok : Sound B) where
  pub whole_raised : (i : ℕ) → i < B.n → RaisedBy whole_limit (whole_price B i) (raised_whole B i)
  whole_raised i l = raised_by whole_limit (whole_price B i) (raised_whole B i) (ok.whole_is i l)

  pub price_raised : (i : ℕ) → i < B.n → RaisedBy price_limit (price B i) (raised_price B i)
  price_raised i l =
      subst (λ (z : ℤ). RaisedBy price_limit (in_hundredths (whole_price B i) z) (raised_price B i)) (sym (ok.hundredths_is i l))
      (parts_raised whole_limit (whole_price B i) (raised_whole B i) (hundredths_part B i) (whole_raised i l))

-- ---- "Prices are equal only if both parts are."

-- 100 times a number and a number below 100 tell both
pub parts_apart : (a b h k : ℕ) → h ≤ hundredths_limit → k ≤ hundredths_limit → hundred * a + h ≡ hundred * b + k → (a ≡ b) × (h ≡ k)
parts_apart a b h k p q e = (omega arith, omega arith)

-- the same of whole parts of any sign
signed_apart : (w v : ℤ) (h k : ℕ) → h ≤ hundredths_limit → k ≤ hundredths_limit → in_hundredths w (pos h) ≡ in_hundredths v (pos k) → (w ≡ v) × (h ≡ k)
signed_apart (pos a) (pos b) h k p q e =
    let parts = parts_apart a b h k p q (let s : a * hundred + h ≡ b * hundred + k = ap nat_abs e in omega arith) in (ap pos parts.0, parts.1)
signed_apart (pos a) (negsuc b) h k p q e = let s : pos (a * hundred + h) ≡ negsuc (hundred * b + (hundredths_limit - k)) = e ∙ below_zero b k q in absurd (cc s)
signed_apart (negsuc a) (pos b) h k p q e = let s : negsuc (hundred * a + (hundredths_limit - h)) ≡ pos (b * hundred + k) = sym (below_zero a h p) ∙ e in absurd (cc s)
signed_apart (negsuc a) (negsuc b) h k p q e =
    let s : suc (hundred * a + (hundredths_limit - h)) ≡ suc (hundred * b + (hundredths_limit - k)) = ap nat_abs (sym (below_zero a h p) ∙ e ∙ below_zero b k q) in
    let parts = parts_apart a b (hundredths_limit - h) (hundredths_limit - k) (omega arith) (omega arith) (omega arith) in
    (ap negsuc parts.0, omega (arith, parts.1))

pub equal_prices : (w h v g : ℤ) → price_in_range w h ≡ true → price_in_range v g ≡ true → in_hundredths w h ≡ in_hundredths v g → (w ≡ v) × (h ≡ g)
equal_prices w h v g p q e =
    let a = sound_price w h p in
    let b = sound_price v g q in
    let parts =
    signed_apart w v (nat_abs h) (nat_abs g) a.hundredths_sized b.hundredths_sized (ap (in_hundredths w) (sym a.hundredths_are) ∙ e ∙ ap (in_hundredths v) b.hundredths_are)
    in
    (parts.0, a.hundredths_are ∙ ap pos parts.1 ∙ sym b.hundredths_are)
