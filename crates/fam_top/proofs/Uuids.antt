-- The UUIDs of a command are UUIDs: those that the words give, this host's, and one of the random bytes.
use Rattle.std.proofs.Common.{◌≡◌, ℕ, Bool, true, false, List, [], ◌∷◌, Option, Some, None, IfSome, option_map}
use Rattle.std.specs.Prelude.{if◌then◌else◌, codes, option_and_then}
use Rattle.std.specs.Str.{bytes_eq}
use Rattle.uuid.specs.Text.{parsed}
use Rattle.fam_grammar.proofs.UuidLaw.{Parses, parses}
use Rattle.fam_words.specs.declared.wanted.ShadowCall.{ShadowCall}
use Rattle.fam_words.specs.Shadows.{shadow_app, shadow_behind, shadow_call, shadow_in, shadow_with}
use Rattle.fam_words.specs.Simple.{rows_given, value_in}
use Rattle.fam_words.specs.Values.{if_given, name_of_text, needed}
use Rattle.fam_format.specs.Params.{IsUuid}
use Rattle.fam_words.specs.declared.wanted.Call.{Call}
use Rattle.fam_words.specs.declared.wanted.Invocation.{Invocation}
use Rattle.fam_words.specs.declared.wanted.Invocation.TheVariants as invocation
use Rattle.fam_words.specs.declared.wanted.Shot.{Shot}
use Rattle.fam_words.specs.declared.wanted.Shot.TheVariants as shot
use Rattle.fam_words.specs.Calls as given
use Rattle.fam_words.specs.Calls.{call_of}
use Rattle.fam_words.proofs.UuidWords.{call_uuids}
use Rattle.fam_top.specs.Calls.{HasOneShotUuids, HasCommandUuids, invoked_command, fs_or, host_or, shot_of}
use Rattle.fam_top.specs.Fresh.{version4_of}
use Rattle.fam_top.specs.Words.{invocation_named, shadow_host}

module _ (me random : List ℕ) (me_is : IsUuid me) (random_is : IsUuid (version4_of random)) where
  fs_is : (fs : Option (List ℕ)) → IfSome fs IsUuid → IsUuid (fs_or random fs)
  fs_is None is = random_is
  fs_is (Some fs) is = is

  host_is : (system : Option (List ℕ)) → IfSome system IsUuid → IsUuid (host_or me system)
  host_is None is = me_is
  host_is (Some system) is = is

  shot_is : (s : Shot) → given.HasShotUuids s → HasOneShotUuids (shot_of random s)
  shot_is (shot.Mkfs fs unit log format force) is = record { fs = fs_is fs is.0; format = is.1 }
  shot_is (shot.Run what) is = tt
  shot_is (shot.Parents path attr) is = tt

  invocation_is : (i : Invocation) → given.HasUuids i → HasCommandUuids (invoked_command me random i)
  invocation_is (invocation.Single system what) is = (host_is system is.0, shot_is what is.1)
  invocation_is (invocation.Script file) is = tt
  invocation_is (invocation.Storm seed size prints) is = tt

  call_is : (o : Option Call) → IfSome o (λ call. given.HasUuids call.invocation) → IfSome (option_map (invoked_command me random) (option_map (λ (call : Call). call.invocation) o)) HasCommandUuids
  call_is None is = tt
  call_is (Some call) is = invocation_is call.invocation is

  pub named_uuids : (words : List (List ℕ)) → IfSome (option_map (invoked_command me random) (invocation_named words)) HasCommandUuids
  unfolding invocation_named
  named_uuids words = call_is (call_of words) (call_uuids words)

-- The host of a shadow.

-- a text that may be given, and reads
text_is : (text : Option (List ℕ)) → IfSome (if_given parsed text) (λ o. IfSome o IsUuid)
text_is None = tt
text_is (Some text) = lifted (parsed text) (parses text)
  where
    lifted : (o : Option (List ℕ)) → Parses o → IfSome (option_map Some o) (λ o. IfSome o IsUuid)
    lifted None is = tt
    lifted (Some id) is = is

module _ (me : List ℕ) (me_is : IsUuid me) where
  abbrev IsHost : Option ShadowCall → Type 0
  IsHost o = IfSome (option_map (λ (call : ShadowCall). host_or me call.system) o) IsUuid

  system_is : (system : Option (List ℕ)) → IfSome system IsUuid → IsUuid (host_or me system)
  system_is None is = me_is
  system_is (Some system) is = is

  with_is : (image : Option (List ℕ)) (folder : Option (List ℕ)) (system : Option (Option (List ℕ))) → IfSome system (λ o. IfSome o IsUuid) → IsHost (shadow_with image folder system)
  with_is None folder system is = tt
  with_is (Some image) None system is = tt
  with_is (Some image) (Some folder) None is = tt
  with_is (Some image) (Some folder) (Some system) is = system_is system is

  then_is : {A : Type 0} (o : Option A) (next : A → Option ShadowCall) → ((x : A) → IsHost (next x)) → IsHost (option_and_then next o)
  then_is None next each = tt
  then_is (Some x) next each = each x

  named_is : (b : Bool) (words : List (List ℕ)) → IsHost (if b then shadow_behind words else None)
  unfolding shadow_in
  named_is true words =
      then_is (rows_given shadow_app words) shadow_in (λ rows.
      with_is (value_in (codes "image") rows) (needed name_of_text (value_in (codes "shadow") rows)) _ (text_is (value_in (codes "system") rows)))
  named_is false words = tt

  -- the words may name another host
  pub shadow_uuid : (words : List (List ℕ)) → IfSome (shadow_host me words) IsUuid
  unfolding shadow_call
  shadow_uuid [] = tt
  shadow_uuid (first ∷ words) = named_is (bytes_eq first (codes "logplay")) words
