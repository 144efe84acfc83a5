-- What a reader of a listing may answer.
use Rattle.std.specs.Prelude.{ℕ, ⊤, ◌++◌, List, Option, Some, None, Result, Ok, Err}
use Rattle.fam_base.specs.declared.entry.Entry.{Entry}
use Rattle.fam_tree.specs.declared.fault.ListingFault.{ListingFault}
use Rattle.fam_tree.specs.declared.fault.ListingFault.TheVariants.{BadListing, OutOfMemory}
use Rattle.fam_tree.specs.Listings.{IsListingLine}

-- a fault names the line that is the first bad one; that no memory is left says nothing of the listing
abbrev pub NamesBad : (Result (List Entry) ℕ → Type 0) → ListingFault → Type 0
NamesBad says (BadListing n) = says (Err n)
NamesBad says OutOfMemory = ⊤

-- a line is this entry's and may stand behind the path, or it is no entry's that may
abbrev pub IsRead : Option (List ℕ) → List ℕ → Option Entry → Type 0
IsRead before line (Some e) = IsListingLine before line e
IsRead before line None = (e : Entry) → IsListingLine before line e → ⊥

-- entries in front of what further lines are
abbrev pub onto : List Entry → Result (List Entry) ℕ → Result (List Entry) ℕ
onto entries (Ok more) = Ok (entries ++ more)
onto entries (Err bad) = Err bad
