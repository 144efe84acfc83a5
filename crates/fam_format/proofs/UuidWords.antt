-- UUIDs as two words each.
use Rattle.std.proofs.Common.{◌≡◌, ℕ, zero, suc, ◌+◌, ◌*◌, ◌<◌, List, get_or, arith}
use Rattle.fam_format.specs.Words.{word_of_bytes, bytes_from, uuid_bytes}
use Rattle.fam_format.specs.Params.{IsUuid}
use Rattle.fam_format.proofs.WordRounds.{length_of_bytes, bytes_of_words_fit, bytes_back}

-- each of the two words is its word
each_word : (first : ℕ) (w id : List ℕ) → get_or w (first + 0) 0 ≡ word_of_bytes id 0 → get_or w (first + 1) 0 ≡ word_of_bytes id 1 → (k : ℕ) → 8 * k < uuid_bytes
    → get_or w (first + k) 0 ≡ word_of_bytes id k
each_word first w id low high zero below = low
each_word first w id low high (suc zero) below = high
each_word first w id low high (suc (suc k)) below = absurd (omega arith)

-- a UUID comes back from its words
pub uuid_back : (first : ℕ) (w id : List ℕ) → IsUuid id → get_or w (first + 0) 0 ≡ word_of_bytes id 0 → get_or w (first + 1) 0 ≡ word_of_bytes id 1
    → bytes_from first w uuid_bytes ≡ id
uuid_back first w id is low high = bytes_back first w uuid_bytes id is.count is.fits (each_word first w id low high)

-- what two words tell is a UUID
pub uuid_read : (first : ℕ) (w : List ℕ) → IsUuid (bytes_from first w uuid_bytes)
uuid_read first w = record { count = length_of_bytes first w uuid_bytes; fits = bytes_of_words_fit first w uuid_bytes }
