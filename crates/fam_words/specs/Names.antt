-- Commands by their names.
use Rattle.std.specs.Prelude.{List, [], ◌∷◌, Option, Some, None, if◌then◌else◌}
use Rattle.std.specs.Str.{bytes_eq}
use Rattle.clap.specs.Walk.{Text}
use Rattle.fam_words.specs.declared.invocations.Name.{Name}
use Rattle.fam_words.specs.declared.invocations.Named.{Named}

-- the first command of this name
abbrev pub first_named : Text → List Named → Option Name
first_named word [] = None
first_named word (named ∷ more) = if bytes_eq word named.text.now then Some named.name else first_named word more
