use Rattle.fam_format.proofs.EntryLawsProofs.{proper_fits, spelling_count, proper_words_fit}
use Rattle.fam_format.proofs.entry_laws.a_proper_entry_fits_its_words.Goals as goal

pub returns : goal.returns
returns c = record {
  numbers = proper_fits;
  count = spelling_count;
  words = λ p e seq sound proper number.
      record { count = spelling_count p e seq; fits = proper_words_fit p e seq sound proper number };
}
