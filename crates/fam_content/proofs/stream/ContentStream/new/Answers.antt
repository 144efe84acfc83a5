use Rattle.std.proofs.Common.{Some, inl, inr, refl, ap, sym, ◌∙◌}
use Rattle.fam_base.specs.declared.cmd.Content.{Content}
use Rattle.fam_rules.proofs.Streams.{stream_state_start}
use Rattle.fam_content.specs.Stream.{generator_of}
use Rattle.fam_content.proofs.stream.ContentStream.new.Goals as goal
use Rattle.fam_content.proofs.stream.ContentStream.new.Goals.{in-Seed, in-Zero}

pub returns : goal.returns
returns c = elim c.match-content.branch [
  | in-Seed w ↦ record {
    generator = w.generator-is
        ∙ ap Some (w.seed_from_u64.ensures ∙ sym (stream_state_start w.in-Seed.seed))
        ∙ ap (λ (x : Content). generator_of x 0) (sym w.in-Seed.is);
    count = refl;
  }
  | in-Zero w ↦ record {
    generator = w.generator-is ∙ elim w.in-Zero.is [
      | inl is ↦ ap (λ (x : Content). generator_of x 0) (sym is)
      | inr (bytes, is) ↦ ap (λ (x : Content). generator_of x 0) (sym is)
    ];
    count = refl;
  }
]
