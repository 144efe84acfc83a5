-- The arguments of each command: words that must stand, then options and flags.
use Rattle.std.specs.Prelude.{List, [], ◌∷◌, ◌++◌, Some, None, true, false, codes}
use Rattle.clap.specs.Simple.{App}
use Rattle.clap.specs.Walk.{Rule}
use Rattle.fam_words.specs.Simple.{app_with, word_rule, option_rule, flag_rule}

-- -m, -u and -g
abbrev pub owner_rules : List Rule
owner_rules =
    option_rule (codes "mode") (Some 109) false
    ∷ option_rule (codes "uid") (Some 117) false
    ∷ option_rule (codes "gid") (Some 103) false
    ∷ []

-- -N, -B and -C
abbrev pub stripe_rules : List Rule
stripe_rules =
    option_rule (codes "nstrips") (Some 78) false
    ∷ option_rule (codes "nbuckets") (Some 66) false
    ∷ option_rule (codes "chunksize") (Some 67) false
    ∷ []

-- IMAGE -u -l -f --format --uuid --system
unfoldable pub mkfs_app : App
mkfs_app =
    app_with (codes "mkfs") ((word_rule (codes "image")
    ∷ option_rule (codes "unit") (Some 117) false
    ∷ option_rule (codes "loglen") (Some 108) false
    ∷ flag_rule (codes "force") 102
    ∷ option_rule (codes "format") None false
    ∷ option_rule (codes "uuid") None false
    ∷ option_rule (codes "system") None false
    ∷ []))

-- IMAGE --system
unfoldable pub logplay_app : App
logplay_app = app_with (codes "logplay") ((word_rule (codes "image") ∷ option_rule (codes "system") None false ∷ []))

-- IMAGE PATH -p -m -u -g --system
unfoldable pub mkdir_app : App
mkdir_app =
    app_with (codes "mkdir") ((word_rule (codes "image")
    ∷ word_rule (codes "path")
    ∷ flag_rule (codes "parents") 112
    ∷ []) ++ owner_rules ++ (option_rule (codes "system") None false ∷ []))

-- IMAGE PATH -s -S -m -u -g -N -B -C --system
unfoldable pub creat_app : App
creat_app =
    app_with (codes "creat") ((word_rule (codes "image")
    ∷ word_rule (codes "path")
    ∷ option_rule (codes "size") (Some 115) true
    ∷ option_rule (codes "seed") (Some 83) false
    ∷ []) ++ owner_rules ++ stripe_rules ++ (option_rule (codes "system") None false ∷ []))

-- IMAGE SOURCE PATH -m -u -g -N -B -C --system
unfoldable pub cp_app : App
cp_app =
    app_with (codes "cp") ((word_rule (codes "image")
    ∷ word_rule (codes "source")
    ∷ word_rule (codes "path")
    ∷ []) ++ owner_rules ++ stripe_rules ++ (option_rule (codes "system") None false ∷ []))

-- IMAGE PATH -S --source --system
unfoldable pub verify_app : App
verify_app =
    app_with (codes "verify") ((word_rule (codes "image")
    ∷ word_rule (codes "path")
    ∷ option_rule (codes "seed") (Some 83) false
    ∷ option_rule (codes "source") None false
    ∷ option_rule (codes "system") None false
    ∷ []))

-- IMAGE PATH OFFSET COUNT --system
unfoldable pub read_app : App
read_app =
    app_with (codes "read") ((word_rule (codes "image")
    ∷ word_rule (codes "path")
    ∷ word_rule (codes "offset")
    ∷ word_rule (codes "count")
    ∷ option_rule (codes "system") None false
    ∷ []))

-- IMAGE LISTING --system
unfoldable pub check_app : App
check_app =
    app_with (codes "check") ((word_rule (codes "image")
    ∷ word_rule (codes "listing")
    ∷ option_rule (codes "system") None false
    ∷ []))

-- IMAGE --system
unfoldable pub fsck_app : App
fsck_app = app_with (codes "fsck") ((word_rule (codes "image") ∷ option_rule (codes "system") None false ∷ []))

-- FILE IMAGE
unfoldable pub script_app : App
script_app = app_with (codes "script") ((word_rule (codes "file") ∷ word_rule (codes "image") ∷ []))

-- SEED SIZE IMAGE -p
unfoldable pub storm_app : App
storm_app =
    app_with (codes "storm") ((word_rule (codes "seed")
    ∷ word_rule (codes "size")
    ∷ word_rule (codes "image")
    ∷ flag_rule (codes "print") 112
    ∷ []))
