-- One byte and one piece of the text: each case of a step, what is over stays, and that a text may be cut anywhere.
use Rattle.std.specs.Prelude.{ℕ, ◌+◌, ◌≤◌, ◌<◌, ◌≡◌, refl, true, false, List, [], ◌∷◌, ◌++◌, length, get_or, drop, ℤ}
use Rattle.std.proofs.Common.{ap, ◌∙◌, add-one, drop_of_length-le, drop-cons}
use Rattle.definitions.specs.Settle.{blank}
use Rattle.text.specs.declared.Reader.{Reader}
use Rattle.stages.specs.Counting.{decided}
use Rattle.text.specs.Reading.{Reading, read_so_far, word_ended, word_grown, after_byte, fed}

pub step_decided : (s : Reading) (byte : ℕ) → decided s.reader.stage ≡ true → after_byte s byte ≡ s
unfolding after_byte
step_decided s byte o = rw o refl

pub step_blank : (s : Reading) (byte : ℕ) → decided s.reader.stage ≡ false → blank byte ≡ true → after_byte s byte ≡ word_ended s
unfolding after_byte
step_blank s byte o b = rw (o, b) refl

pub step_grown : (s : Reading) (byte : ℕ) → decided s.reader.stage ≡ false → blank byte ≡ false → after_byte s byte ≡ word_grown s byte
unfolding after_byte
step_grown s byte o b = rw (o, b) refl

-- the loop's turn: r and xs are what the step at i left
pub fed_on : (s : Reading) (bytes : List ℕ) (i : ℕ) (r : Reader) (xs : List ℤ) → i < length bytes → r ≡ (after_byte s (get_or bytes i 0)).reader
    → xs ≡ (after_byte s (get_or bytes i 0)).numbers → fed (read_so_far r xs) (drop (i + 1) bytes) ≡ fed s (drop i bytes)
unfolding fed
fed_on s bytes i r xs h e q = rw (e, q, add-one i, drop-cons bytes i 0 h) refl

-- the loop's end
pub fed_all : (s : Reading) (bytes : List ℕ) (i : ℕ) → length bytes ≤ i → s ≡ fed s (drop i bytes)
unfolding fed
fed_all s bytes i h = rw (drop_of_length-le bytes h) refl

-- "1 and 2 are tested once n and m are both read, before the rest is looked at": no later byte changes anything
pub decided_stays : (text : List ℕ) (s : Reading) → decided s.reader.stage ≡ true → fed s text ≡ s
unfolding fed
decided_stays [] s o = refl
decided_stays (byte ∷ text) s o = ap (λ (r : Reading). fed r text) (step_decided s byte o) ∙ decided_stays text s o

-- a text in two pieces
pub fed_append : (a b : List ℕ) (s : Reading) → fed (fed s a) b ≡ fed s (a ++ b)
unfolding fed
fed_append [] b s = refl
fed_append (byte ∷ a) b s = fed_append a b (after_byte s byte)
