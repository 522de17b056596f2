-- `word` meets its contract: within the whole words its four bytes are there, behind them it is 0.
use Rattle.std.proofs.Common.{rules, ℕ, ap, ◌∙◌, ◌≡◌, List, [], get_or, length, arith, Option, Some, None, Bor, w32}
use Rattle.std.specs.Prelude.{MatchOption}
use Rattle.std.specs.Int.{from_le_bytes}
use Rattle.std.specs.Slice.{IsItemAt}
use Rattle.std.specs.Simd.{first_chunks}
use Rattle.words.specs.Words.{word_count, word_at}
use Rattle.words.proofs.Positions.{word_behind, word_within}
use Rattle.words.proofs.word.Goals as goal

module _ (input : List ℕ) (k v : ℕ) (chunks : List (List ℕ)) (front : chunks ≡ first_chunks 4 (word_count input) input) (count : length chunks ≡ word_count input) where
  found : {Read : Bor (List ℕ) → Type 0} → ((x : Bor (List ℕ)) → Read x → v ≡ from_le_bytes w32 x.now) → (r : Option (Bor (List ℕ))) → IsItemAt chunks k r → MatchOption r (v ≡ 0) Read → v ≡ word_at input k
  found read None here e = e ∙ word_behind input k (omega (arith, here, count))
  found read (Some x) here e =
      read x e ∙ word_within input k x.now (omega (arith, here.3.0, count)) (here.4 (omega arith) [] ∙ ap (λ (chunks : List (List ℕ)). get_or chunks k []) front)

pub returns : goal.returns
returns c = found _ _ _ _ c.as_chunks.ensures.front c.as_chunks.ensures.front_len (λ x e. search rules) _ c.get.ensures.lookup c.map_or.ensures
