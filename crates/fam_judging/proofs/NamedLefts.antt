-- What is left of entries that are named and acknowledged.
use Rattle.std.proofs.Common.{◌≡◌, ℕ, Some, None, refl, ap, ◌∙◌}
use Rattle.fam_base.specs.declared.entry.Entry.{Entry}
use Rattle.fam_history.specs.declared.command.ToldCommand.{ToldCommand}
use Rattle.fam_journal.specs.Past.{State, acknowledges}
use Rattle.fam_lines.specs.declared.host.SeenHost.{SeenHost}
use Rattle.fam_settled.specs.Settled.{SettledLog as Log, settled_log_state}
use Rattle.fam_judging.specs.declared.candidate.Settled.TheVariants as settled
use Rattle.fam_judging.specs.declared.candidate.Track.{Track}
use Rattle.fam_judging.specs.FoundLefts.{host_of}
use Rattle.fam_judging.specs.NamedLefts.{NamedLeft}
use Rattle.fam_judging.specs.Replies.{EndingState}
use Rattle.fam_judging.specs.Told.{NamesIn}

module _ (log : Log) (seq : ℕ) (seen : SeenHost) (cmd : ToldCommand) (t : Track) (s : State) where
  -- none is named
  pub named_none : NamesIn seq (host_of seen cmd t) cmd (settled_log_state log) s None → NamedLeft log seq seen cmd t None
  named_none names e is = let r : None ≡ Some e = names.complete e is in absurd cc

  -- one is, and it is acknowledged
  pub named_some : (e : Entry) (new : Log) → NamesIn seq (host_of seen cmd t) cmd (settled_log_state log) s (Some e) → settled_log_state new ≡ acknowledges seq s
      → NamedLeft log seq seen cmd t (Some (record { settled = settled.Log new; track = record t { wrote = Some (record { seq = seq; entry = e }) } }))
  named_some e new names done = (
    e,
    names.allowed e refl,
    names.shape e refl,
    λ start. ap (λ (k : State). let end : EndingState = record { state = k; floor = t.floor; wrote = Some (record { seq = seq; entry = e }) } in end)
        (done ∙ ap (acknowledges seq) (names.state e refl)),
  )
