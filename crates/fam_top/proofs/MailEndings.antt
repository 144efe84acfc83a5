-- Words of a script over a mailbox for which nothing is run: they ask for none, or no memory was left for them.
use Rattle.std.proofs.Common.{◌≡◌, Bool, Option, Some, None, ap, inl, refl, subst, sym}
use Rattle.fam_media.specs.States.{MediaState}
use Rattle.fam_outcomes.specs.declared.status.Status.{Status}
use Rattle.fam_outcomes.specs.declared.status.Status.TheVariants as status
use Rattle.fam_outcomes.specs.Programs.{memory_line, usage_line}
use Rattle.fam_outcomes.specs.Runs.{NoneFalls, Outside}
use Rattle.fam_program.specs.declared.fault.ScriptFault.TheVariants as fault
use Rattle.fam_program.specs.Puts.{Put}
use Rattle.fam_words.specs.declared.wanted.MailCall.{MailCall}
use Rattle.fam_top.specs.Mails.{MailEnds}
use Rattle.fam_top.proofs.Endings.{no_command, no_memory}

module _ (exact : Bool) (out : Outside) (given : Status) (untouched : out.media.new ≡ out.media.old) (later : NoneFalls out) where
  same : out.media.new.image ≡ out.media.old.image
  same = ap (λ (state : MediaState). state.image) untouched

  pub no_mail : (asked : Option MailCall) → asked ≡ None → Put status.Usage usage_line out.sink given → MailEnds exact asked out given
  no_mail asked none put = subst (λ (o : Option MailCall). MailEnds exact o out given) (sym none) (no_command out given same later None refl put)

  pub mail_wants : (asked : Option MailCall) → Put status.OutOfMemory memory_line out.sink given → MailEnds exact asked out given
  mail_wants None put = no_memory out given same later None put
  mail_wants (Some call) put = record {
    shows = inl record { fault = fault.OutOfMemory; cause = tt; untouched = untouched; put = inl put };
    later = later;
  }
