-- Last theorem: a text that is read in pieces, however it is cut, is what the documents say of the whole (`reads_pieces`).
use Rattle.std.specs.Prelude.{ℕ, ◌≡◌, refl, List, [], ◌∷◌, ◌++◌, length, ℤ}
use Rattle.std.proofs.Common.{ap, ◌∙◌}
use Rattle.definitions.specs.Settle.{Input, settle_input}
use Rattle.stages.specs.Counting.{table_numbers, input_for}
use Rattle.text.specs.Reading.{Reading, read_so_far, start_reader, word_ended, fed, answer_so_far}
use Rattle.text.specs.Steps.{fed_append}
use Rattle.text.specs.Texts.{reads}

-- one piece after another
unfoldable pub fed_pieces : Reading → List (List ℕ) → Reading
fed_pieces s [] = s
fed_pieces s (piece ∷ pieces) = fed_pieces (fed s piece) pieces

-- the whole text
unfoldable pub joined : List (List ℕ) → List ℕ
joined [] = []
joined (piece ∷ pieces) = piece ++ joined pieces

-- what is answered once the last piece is fed and the text has ended, with `before` stored at first
abbrev pub pieces_read : (before : List ℤ) (pieces : List (List ℕ)) → Input
pieces_read before pieces =
    let read = word_ended (fed_pieces (read_so_far start_reader before) pieces) in
    input_for (answer_so_far read) read.numbers

pieces_joined : (pieces : List (List ℕ)) (s : Reading) → fed_pieces s pieces ≡ fed s (joined pieces)
unfolding fed_pieces joined fed
pieces_joined [] s = refl
pieces_joined (piece ∷ pieces) s = pieces_joined pieces (fed s piece) ∙ fed_append piece (joined pieces) s

pub reads_pieces : (before : List ℤ) (pieces : List (List ℕ)) → length before ≡ table_numbers → pieces_read before pieces ≡ settle_input (joined pieces)
reads_pieces before pieces l =
    ap (λ (s : Reading). input_for (answer_so_far (word_ended s)) (word_ended s).numbers) (pieces_joined pieces (read_so_far start_reader before))
    ∙ reads before (joined pieces) l
