-- What a stream of lines stands for.
use Rattle.std.specs.Prelude.{ℕ, ◌≡◌, ◌+◌, ◌*◌, ◌^◌, ◌<◌, Option, Some, None, List, [], length, slice_index, slice_index_or}
use Rattle.fam_base.specs.declared.cmd.Content.{Content}
use Rattle.fam_base.specs.declared.cmd.Content.TheVariants.{Zero, Seed, Bytes}
use Rattle.fam_rules.specs.Content.{stream_state}
use Rattle.fam_content.specs.declared.stream.ContentStream.{ContentStream}

-- the generator that a content needs, after so many words of its stream
abbrev pub generator_of : Content → ℕ → Option (List ℕ)
generator_of Zero words = None
generator_of (Seed seed) words = Some (stream_state seed words)
generator_of (Bytes bytes) words = None

-- the stream has given so many lines of this content, from the front: eight words of a seed's stream each
pub record StreamStandsFor (stream : ContentStream) (content : Content) (given : ℕ) : Type 0 where
  pub generator : stream.generator ≡ generator_of content (8 * given)
  pub count : stream.given ≡ given

-- the stream was made from this content, and a file of this size has a line that it has not given
pub record HasLineLeft (stream : ContentStream) (content : Content) (size : ℕ) : Type 0 where
  pub given : ℕ
  pub stands : StreamStandsFor stream content given
  pub left : 64 * given < size

-- line k of a run of lines
abbrev pub line_in : List (List ℕ) → ℕ → List ℕ
line_in lines k = slice_index_or lines k []

-- eight words
pub record IsLine (words : List ℕ) : Type 0 where
  pub count : length words ≡ 8
  pub fits : (w : ℕ) → slice_index words w < 2 ^ 64

-- so many lines that it has not given: the last of them begins below the size
pub record HasLinesLeft (stream : ContentStream) (content : Content) (size count : ℕ) : Type 0 where
  pub given : ℕ
  pub stands : StreamStandsFor stream content given
  pub left : 64 * (given + count) < size + 64
