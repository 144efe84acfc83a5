-- What a blank image tells: it has no superblock.
use Rattle.std.proofs.Common.{◌≡◌, ℕ, zero, suc, ◌*◌, Bool, true, false, cond, List, ◌++◌, length, Some, None, Err, refl, ap, sym, ◌∙◌}
use Rattle.std.specs.Prelude.{nat_lt, replicate, slice_index}
use Rattle.std.proofs.lemmas.List.{length-replicate}
use Rattle.fam_base.specs.declared.entry.Params.{Params}
use Rattle.fam_base.specs.Image.{Image, line_at}
use Rattle.fam_format.specs.declared.faults.SuperFault.TheVariants as super
use Rattle.fam_format.specs.Layout.{gate_line, least_lines}
use Rattle.fam_format.specs.Line.{line_bytes}
use Rattle.fam_format.specs.Reading as read
use Rattle.fam_format.specs.Reading.{gate_in, read_super, reading, reading_of, super_in}
use Rattle.fam_format.specs.Super.{super_of}
use Rattle.fam_rules.specs.Reports.{report_of, report_super}
use Rattle.fam_journal.specs.Legal.{DamagedSuper, cleared_report}
use Rattle.fam_journal.specs.Past as past
use Rattle.fam_journal.specs.Past.{State, Bad, first_state, state_read}
use Rattle.fam_judging.specs.Candidates.{IsGivenImage, past_damage}
use Rattle.fam_judging.specs.declared.given.Damage.TheVariants as damage
use Rattle.fam_verdict.specs.Blank.{blank_damage, blank_image}

-- each line is zeros, also one past the end
line_is : (lines k : ℕ) → line_at (blank_image lines) k ≡ replicate 8 0
line_is zero k = refl
line_is (suc lines) zero = refl
line_is (suc lines) (suc k) = line_is lines k

-- the first word is no magic
no_super : (lines have : ℕ) → super_in (line_at (blank_image lines)) have ≡ Err (super.NoSuper 0)
unfolding super_of
no_super lines have =
    ap (λ (l : List ℕ). super_of (slice_index l 0) (line_at (blank_image lines) 1 ++ line_at (blank_image lines) 2) have) (line_is lines 0)

read_none : (lines : ℕ) → reading (blank_image lines) ≡ read.NoSuperblock (super.NoSuper 0)
unfolding reading_of
read_none lines = ap (read_super (line_at (blank_image lines))) (no_super lines (line_bytes * length (blank_image lines)))

no_gate : (lines : ℕ) → gate_in (line_at (blank_image lines)) ≡ 0
no_gate lines = ap (λ (l : List ℕ). slice_index l 0) (line_is lines gate_line)

report_is : (lines : ℕ) → report_of (line_at (blank_image lines)) (line_bytes * length (blank_image lines)) ≡ cleared_report
unfolding report_of
report_is lines = ap (report_super (line_at (blank_image lines))) (no_super lines (line_bytes * length (blank_image lines)))

-- the state by whether there are fewer lines than a gate needs
state_by : (image : Image) (lines : ℕ) (few : Bool) → length image ≡ lines
    → state_read image (reading image) ≡ Bad (past.Given image) (past.NoSuperblock (super.NoSuper 0)) 0
    → cond few (Bad (past.Given image) (past.FewLines (length image)) 0) (state_read image (reading image))
    ≡ Bad (past.Given image) (past_damage (cond few (damage.FewLines lines) (damage.NoSuperblock (super.NoSuper 0)))) 0
state_by image lines true long none = ap (λ (n : ℕ). Bad (past.Given image) (past.FewLines n) 0) long
state_by image lines false long none = none

state_is : (lines : ℕ) → first_state (blank_image lines) ≡ Bad (past.Given (blank_image lines)) (past_damage (blank_damage lines)) 0
state_is lines =
    let image : Image = blank_image lines in
    let long : length image ≡ lines = length-replicate lines (replicate 8 0) in
    ap (λ (n : ℕ). cond (nat_lt n least_lines) (Bad (past.Given image) (past.FewLines (length image)) 0) (state_read image (reading image))) long
    ∙ state_by image lines (nat_lt lines least_lines) long
    (ap (state_read image) (read_none lines) ∙ ap (λ (gate : ℕ). Bad (past.Given image) (past.NoSuperblock (super.NoSuper 0)) gate) (no_gate lines))

no_params_by : (p : Params) (image : Image) (lines : ℕ) (few : Bool)
    → DamagedSuper p (past.Given image) (past_damage (cond few (damage.FewLines lines) (damage.NoSuperblock (super.NoSuper 0)))) → ⊥
no_params_by p image lines true has = has
no_params_by p image lines false has = has

no_params : (lines : ℕ) (p : Params) → None ≡ Some p → ⊥
no_params lines p is = cc

-- so a blank image is given
pub given_blank : (lines : ℕ) → IsGivenImage (blank_image lines) (record { damage = blank_damage lines; gate = 0; params = None; report = cleared_report })
given_blank lines = record {
  state = state_is lines;
  super = λ p has. absurd (no_params_by p (blank_image lines) lines (nat_lt lines least_lines) has);
  params = λ p is. absurd (no_params lines p is);
  report = sym (report_is lines);
}
