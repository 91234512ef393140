-- Plain form and packed form determine each other: what writing gave is read back, and what reading gave is written back. Proved in
-- proofs/RoundTrip.
use Rattle.std.specs.Prelude.{◌≡◌, ℕ, ◌*◌, ◌<◌, ◌≤◌, List, length, get_or, take}
use Rattle.table.specs.Answers.{success, over}
use Rattle.table.specs.Rows.{row_size}
use Rattle.table.specs.Packed.{read_answer, words_after, write_answer, bytes_after}

-- the bytes that writing gave in a buffer, and the words that reading gave
abbrev pub bytes_given : ℕ → List ℕ → List ℕ → List ℕ
bytes_given m words old = take (write_answer m words (length old)).count (bytes_after m words old)

abbrev pub words_given : List ℕ → List ℕ → List ℕ
words_given bytes old = take (row_size * (read_answer bytes (length old)).count) (words_after bytes old)

pub record RoundTrip : Type 0 where
  -- a table that was written, into any buffer, is read back into any that has room for its words
  pub read_written :
      (m : ℕ) (words old buffer : List ℕ) → (write_answer m words (length old)).number ≡ 0 → row_size * m ≤ length buffer
      → (read_answer (bytes_given m words old) (length buffer) ≡ success m)
      × (words_after (bytes_given m words old) buffer ≡ over words buffer)
  -- bytes that were read, each below 256, are written back
  pub write_read :
      (bytes old buffer : List ℕ) → ((k : ℕ) → get_or bytes k 0 < 256) → (read_answer bytes (length old)).number ≡ 0 → length bytes ≤ length buffer
      → (write_answer (read_answer bytes (length old)).count (words_given bytes old) (length buffer) ≡ success (length bytes))
      × (bytes_after (read_answer bytes (length old)).count (words_given bytes old) buffer ≡ over bytes buffer)
