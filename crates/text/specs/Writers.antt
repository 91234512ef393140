-- What a writer leaves.
use Rattle.std.specs.Prelude.{◌≡◌, ℕ, List}
use Rattle.text.specs.declared.Writer.{Writer}
use Rattle.text.specs.Text.{Wrote}

-- What writing bytes does to a writer: it holds the text that it held, and the bytes are written from its place on.
pub record Writes (bytes : List ℕ) (old new : Writer) : Type 0 where
  pub same_text : new.text.ghost_name ≡ old.text.ghost_name
  pub wrote : Wrote old.at bytes old.text.now new.at new.text.now
