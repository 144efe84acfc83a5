-- Which hosts a note names, and what they are called.
use Rattle.std.specs.Prelude.{ℕ, ⊤, ◌+◌, ◌<◌, List, [], ◌∷◌}
use Rattle.fam_journal.specs.declared.refusal.Refusal.{Refusal}
use Rattle.fam_journal.specs.Notes.{Note}
use Rattle.fam_journal.specs.NoteClasses.{NoteClass, note_class, Declared, Formatted, Going, Answering, Refusing}
use Rattle.fam_journal.specs.RefusalClasses.{RefusalClass, refusal_class, AtOnce, ByHost, ByImage, BySource, ByFault}

-- a refusal names one of so many hosts, or none; by the class of the refusal
abbrev pub NamesCauseIn : ℕ → RefusalClass → Type 0
NamesCauseIn n AtOnce = ⊤
NamesCauseIn n (ByHost host) = host.0 < n
NamesCauseIn n ByImage = ⊤
NamesCauseIn n BySource = ⊤
NamesCauseIn n (ByFault at) = ⊤

-- so of a refusal, by its class
abbrev pub NamesCause : ℕ → Refusal → Type 0
NamesCause n cause = NamesCauseIn n (refusal_class cause)

-- a note names one of so many hosts; by the class of the note
abbrev pub NamesHostIn : ℕ → NoteClass → Type 0
NamesHostIn n (Declared name uuid) = ⊤
NamesHostIn n (Formatted host p) = host < n
NamesHostIn n (Going host) = host < n
NamesHostIn n (Answering host answer) = host < n
NamesHostIn n (Refusing name cause) = NamesCause n cause

-- so of a note, by its class
abbrev pub NamesHost : ℕ → Note → Type 0
NamesHost n note = NamesHostIn n (note_class note)

-- each of these notes names one of so many hosts
abbrev pub AreNamed : ℕ → List Note → Type 0
AreNamed n [] = ⊤
AreNamed n (note ∷ notes) = NamesHost n note × AreNamed n notes

-- how many hosts are declared behind a note; by the class of the note
abbrev pub declared_after_in : ℕ → NoteClass → ℕ
declared_after_in n (Declared name uuid) = n + 1
declared_after_in n (Formatted host p) = n
declared_after_in n (Going host) = n
declared_after_in n (Answering host answer) = n
declared_after_in n (Refusing name cause) = n

-- so of a note, by its class
abbrev pub declared_after : ℕ → Note → ℕ
declared_after n note = declared_after_in n (note_class note)

-- each note names a host that is declared before it: one of the first so many, or of the notes before
abbrev pub NameDeclared : ℕ → List Note → Type 0
NameDeclared n [] = ⊤
NameDeclared n (note ∷ notes) = NamesHost n note × NameDeclared (declared_after n note) notes
