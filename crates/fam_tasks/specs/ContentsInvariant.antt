-- How the parts of a content's lines hang together.
use Rattle.fam_rules.specs.Content.{HoldsBytes}
use Rattle.fam_content.specs.Stream.{StreamStandsFor}
use Rattle.fam_tasks.specs.declared.contents.Contents.TheInside.{Inside}

-- the stream has given as many lines of the content, whose bytes are bytes
pub record IsContents (c : Inside) : Type 0 where
  pub stream : StreamStandsFor c.stream c.content c.taken
  pub bytes : HoldsBytes c.content
