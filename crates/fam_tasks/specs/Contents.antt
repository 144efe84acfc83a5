-- What a contract sees of the lines of a content.
use Rattle.std.specs.Prelude.{ℕ, ◌+◌, List}
use Rattle.fam_base.specs.declared.cmd.Content.{Content}
use Rattle.fam_rules.specs.Content.{content_line}

-- a content, how many of its lines were taken, and the last of them
pub record ContentsState : Type 0 where
  pub content : Content
  pub taken : ℕ
  pub line : List ℕ

-- one line more of a file of so many bytes
abbrev pub next_of : ContentsState → ℕ → ContentsState
next_of s size = record { content = s.content; taken = s.taken + 1; line = content_line s.content size s.taken }
