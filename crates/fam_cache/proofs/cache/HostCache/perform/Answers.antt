use Rattle.std.proofs.Common.{Some, refl, ap, rules}
use Rattle.fam_cache.proofs.Performed.{fence_operated, invalidate_failed, invalidate_operated, load_failed, load_gives, load_operated, store_failed, store_operated, write_back_operated}
use Rattle.fam_cache.proofs.cache.HostCache.perform.Goals as goal

pub returns-in-Err-invalidate-clause-failed : goal.returns-in-Err-invalidate-clause-failed
returns-in-Err-invalidate-clause-failed g c =
    invalidate_failed c.args.op c.in-Invalidate.line _ _ _ _ c.in-Invalidate.is c.in-Err-invalidate.ensures.torn c.in-Err-invalidate.ensures.err

pub returns-in-Ok-clause-given : goal.returns-in-Ok-clause-given
returns-in-Ok-clause-given g c =
    load_gives c.args.op c.in-Load.line c.in-Load.word c.in-Ok.word _ _ _ c.in-Load.is c.in-Ok.ensures.value c.in-Ok.ensures.cache

pub returns-in-Err-Failed-clause-failed : goal.returns-in-Err-Failed-clause-failed
returns-in-Err-Failed-clause-failed g c =
    load_failed c.args.op c.in-Load.line c.in-Load.word _ _ _ _ c.in-Load.is (λ held. search rules) c.in-Err-Failed.ensures.image c.in-Err-Failed.ensures.err

pub returns-in-Err-Failed-store-clause-failed : goal.returns-in-Err-Failed-store-clause-failed
returns-in-Err-Failed-store-clause-failed g c =
    store_failed c.args.op c.in-Store.line c.in-Store.word c.in-Store.value _ _ _ _ c.in-Store.is (λ held. search rules) c.in-Err-Failed-store.ensures.image c.in-Err-Failed-store.ensures.err

pub returns-in-Ok-clause-operated : goal.returns-in-Ok-clause-operated
returns-in-Ok-clause-operated g c =
    load_operated c.args.op c.in-Load.line c.in-Load.word _ _ _ _ c.in-Load.is c.in-Ok.ensures.image c.in-Ok.ensures.cache

pub returns-in-Ok-store-clause-operated : goal.returns-in-Ok-store-clause-operated
returns-in-Ok-store-clause-operated g c =
    store_operated c.args.op c.in-Store.line c.in-Store.word c.in-Store.value _ _ _ _ c.in-Store.is c.in-Ok-store.ensures.image c.in-Ok-store.ensures.cache

pub returns-in-WriteBack-clause-operated : goal.returns-in-WriteBack-clause-operated
returns-in-WriteBack-clause-operated g c =
    write_back_operated c.args.op c.in-WriteBack.line _ _ _ c.in-WriteBack.is c.write_back.ensures.cache

pub returns-in-Ok-fence-clause-operated : goal.returns-in-Ok-fence-clause-operated
returns-in-Ok-fence-clause-operated g c = fence_operated c.args.op _ _ _ _ c.in-Fence.is c.in-Ok-fence.ensures.operated

pub returns-in-Ok-invalidate-clause-operated : goal.returns-in-Ok-invalidate-clause-operated
returns-in-Ok-invalidate-clause-operated g c =
    invalidate_operated c.args.op c.in-Invalidate.line _ _ _ _ c.in-Invalidate.is c.in-Ok-invalidate.ensures.memory c.in-Ok-invalidate.ensures.cache

pub returns-in-Ok-clause-cache : goal.returns-in-Ok-clause-cache
returns-in-Ok-clause-cache g c = rw c.in-Load.is c.in-Ok.ensures.cache

pub returns-in-Ok-clause-word : goal.returns-in-Ok-clause-word
returns-in-Ok-clause-word g c = rw c.in-Load.is (ap Some c.in-Ok.ensures.value)

pub returns-in-Ok-clause-same : goal.returns-in-Ok-clause-same
returns-in-Ok-clause-same g c = rw c.in-Load.is c.in-Ok.ensures.same

pub returns-in-Ok-clause-held_spare : goal.returns-in-Ok-clause-held_spare
returns-in-Ok-clause-held_spare g c = rw c.in-Load.is c.in-Ok.ensures.held_spare

pub returns-in-Ok-clause-steady : goal.returns-in-Ok-clause-steady
returns-in-Ok-clause-steady g c = c.in-Ok.ensures.steady

pub returns-in-Ok-clause-spare : goal.returns-in-Ok-clause-spare
returns-in-Ok-clause-spare g c = c.in-Ok.ensures.spare

pub returns-in-Err-Failed-clause-err : goal.returns-in-Err-Failed-clause-err
returns-in-Err-Failed-clause-err g c = rw c.in-Load.is c.in-Err-Failed.ensures.err

pub returns-in-Err-Failed-clause-ok : goal.returns-in-Err-Failed-clause-ok
returns-in-Err-Failed-clause-ok g c = rw c.in-Load.is c.in-Err-Failed.ensures.ok

pub returns-in-Err-Failed-clause-same : goal.returns-in-Err-Failed-clause-same
returns-in-Err-Failed-clause-same g c = rw c.in-Load.is c.in-Err-Failed.ensures.same

pub returns-in-Err-Failed-clause-held_spare : goal.returns-in-Err-Failed-clause-held_spare
returns-in-Err-Failed-clause-held_spare g c = rw c.in-Load.is c.in-Err-Failed.ensures.held_spare

pub returns-in-Err-Failed-clause-steady : goal.returns-in-Err-Failed-clause-steady
returns-in-Err-Failed-clause-steady g c = c.in-Err-Failed.ensures.steady

pub returns-in-Err-Failed-clause-spare : goal.returns-in-Err-Failed-clause-spare
returns-in-Err-Failed-clause-spare g c = c.in-Err-Failed.ensures.spare

pub returns-in-Err-Failed-clause-err_spare : goal.returns-in-Err-Failed-clause-err_spare
returns-in-Err-Failed-clause-err_spare g c = c.in-Err-Failed.ensures.err_spare

pub returns-in-Err-OutOfMemory-clause-err : goal.returns-in-Err-OutOfMemory-clause-err
returns-in-Err-OutOfMemory-clause-err g c = rw c.in-Load.is c.in-Err-OutOfMemory.ensures.err

pub returns-in-Err-OutOfMemory-clause-ok : goal.returns-in-Err-OutOfMemory-clause-ok
returns-in-Err-OutOfMemory-clause-ok g c = rw c.in-Load.is c.in-Err-OutOfMemory.ensures.ok

pub returns-in-Err-OutOfMemory-clause-same : goal.returns-in-Err-OutOfMemory-clause-same
returns-in-Err-OutOfMemory-clause-same g c = rw c.in-Load.is c.in-Err-OutOfMemory.ensures.same

pub returns-in-Err-OutOfMemory-clause-held_spare : goal.returns-in-Err-OutOfMemory-clause-held_spare
returns-in-Err-OutOfMemory-clause-held_spare g c = rw c.in-Load.is c.in-Err-OutOfMemory.ensures.held_spare

pub returns-in-Err-OutOfMemory-clause-steady : goal.returns-in-Err-OutOfMemory-clause-steady
returns-in-Err-OutOfMemory-clause-steady g c = c.in-Err-OutOfMemory.ensures.steady

pub returns-in-Err-OutOfMemory-clause-spare : goal.returns-in-Err-OutOfMemory-clause-spare
returns-in-Err-OutOfMemory-clause-spare g c = c.in-Err-OutOfMemory.ensures.spare

pub returns-in-Err-OutOfMemory-clause-err_spare : goal.returns-in-Err-OutOfMemory-clause-err_spare
returns-in-Err-OutOfMemory-clause-err_spare g c = c.in-Err-OutOfMemory.ensures.err_spare

pub returns-in-Err-Failed-clause-line : goal.returns-in-Err-Failed-clause-line
returns-in-Err-Failed-clause-line g c = rw c.in-Load.is refl

pub returns-in-Ok-store-clause-cache : goal.returns-in-Ok-store-clause-cache
returns-in-Ok-store-clause-cache g c = rw c.in-Store.is c.in-Ok-store.ensures.cache

pub returns-in-Ok-store-clause-word : goal.returns-in-Ok-store-clause-word
returns-in-Ok-store-clause-word g c = rw c.in-Store.is refl

pub returns-in-Ok-store-clause-same : goal.returns-in-Ok-store-clause-same
returns-in-Ok-store-clause-same g c = rw c.in-Store.is c.in-Ok-store.ensures.same

pub returns-in-Ok-store-clause-held_spare : goal.returns-in-Ok-store-clause-held_spare
returns-in-Ok-store-clause-held_spare g c = rw c.in-Store.is c.in-Ok-store.ensures.held_spare

pub returns-in-Ok-store-clause-steady : goal.returns-in-Ok-store-clause-steady
returns-in-Ok-store-clause-steady g c = c.in-Ok-store.ensures.steady

pub returns-in-Ok-store-clause-spare : goal.returns-in-Ok-store-clause-spare
returns-in-Ok-store-clause-spare g c = c.in-Ok-store.ensures.spare

pub returns-in-Err-Failed-store-clause-err : goal.returns-in-Err-Failed-store-clause-err
returns-in-Err-Failed-store-clause-err g c = rw c.in-Store.is c.in-Err-Failed-store.ensures.err

pub returns-in-Err-Failed-store-clause-ok : goal.returns-in-Err-Failed-store-clause-ok
returns-in-Err-Failed-store-clause-ok g c = rw c.in-Store.is c.in-Err-Failed-store.ensures.ok

pub returns-in-Err-Failed-store-clause-same : goal.returns-in-Err-Failed-store-clause-same
returns-in-Err-Failed-store-clause-same g c = rw c.in-Store.is c.in-Err-Failed-store.ensures.same

pub returns-in-Err-Failed-store-clause-held_spare : goal.returns-in-Err-Failed-store-clause-held_spare
returns-in-Err-Failed-store-clause-held_spare g c = rw c.in-Store.is c.in-Err-Failed-store.ensures.held_spare

pub returns-in-Err-Failed-store-clause-steady : goal.returns-in-Err-Failed-store-clause-steady
returns-in-Err-Failed-store-clause-steady g c = c.in-Err-Failed-store.ensures.steady

pub returns-in-Err-Failed-store-clause-spare : goal.returns-in-Err-Failed-store-clause-spare
returns-in-Err-Failed-store-clause-spare g c = c.in-Err-Failed-store.ensures.spare

pub returns-in-Err-Failed-store-clause-err_spare : goal.returns-in-Err-Failed-store-clause-err_spare
returns-in-Err-Failed-store-clause-err_spare g c = c.in-Err-Failed-store.ensures.err_spare

pub returns-in-Err-OutOfMemory-store-clause-err : goal.returns-in-Err-OutOfMemory-store-clause-err
returns-in-Err-OutOfMemory-store-clause-err g c = rw c.in-Store.is c.in-Err-OutOfMemory-store.ensures.err

pub returns-in-Err-OutOfMemory-store-clause-ok : goal.returns-in-Err-OutOfMemory-store-clause-ok
returns-in-Err-OutOfMemory-store-clause-ok g c = rw c.in-Store.is c.in-Err-OutOfMemory-store.ensures.ok

pub returns-in-Err-OutOfMemory-store-clause-same : goal.returns-in-Err-OutOfMemory-store-clause-same
returns-in-Err-OutOfMemory-store-clause-same g c = rw c.in-Store.is c.in-Err-OutOfMemory-store.ensures.same

pub returns-in-Err-OutOfMemory-store-clause-held_spare : goal.returns-in-Err-OutOfMemory-store-clause-held_spare
returns-in-Err-OutOfMemory-store-clause-held_spare g c = rw c.in-Store.is c.in-Err-OutOfMemory-store.ensures.held_spare

pub returns-in-Err-OutOfMemory-store-clause-steady : goal.returns-in-Err-OutOfMemory-store-clause-steady
returns-in-Err-OutOfMemory-store-clause-steady g c = c.in-Err-OutOfMemory-store.ensures.steady

pub returns-in-Err-OutOfMemory-store-clause-spare : goal.returns-in-Err-OutOfMemory-store-clause-spare
returns-in-Err-OutOfMemory-store-clause-spare g c = c.in-Err-OutOfMemory-store.ensures.spare

pub returns-in-Err-OutOfMemory-store-clause-err_spare : goal.returns-in-Err-OutOfMemory-store-clause-err_spare
returns-in-Err-OutOfMemory-store-clause-err_spare g c = c.in-Err-OutOfMemory-store.ensures.err_spare

pub returns-in-Err-Failed-store-clause-line : goal.returns-in-Err-Failed-store-clause-line
returns-in-Err-Failed-store-clause-line g c = rw c.in-Store.is refl

pub returns-in-WriteBack-clause-cache : goal.returns-in-WriteBack-clause-cache
returns-in-WriteBack-clause-cache g c = rw c.in-WriteBack.is c.write_back.ensures.cache

pub returns-in-WriteBack-clause-word : goal.returns-in-WriteBack-clause-word
returns-in-WriteBack-clause-word g c = rw c.in-WriteBack.is refl

pub returns-in-Ok-fence-clause-cache : goal.returns-in-Ok-fence-clause-cache
returns-in-Ok-fence-clause-cache g c = rw c.in-Fence.is c.in-Ok-fence.ensures.cache

pub returns-in-Ok-fence-clause-same : goal.returns-in-Ok-fence-clause-same
returns-in-Ok-fence-clause-same g c = rw c.in-Fence.is c.in-Ok-fence.ensures.same

pub returns-in-Ok-fence-clause-word : goal.returns-in-Ok-fence-clause-word
returns-in-Ok-fence-clause-word g c = rw c.in-Fence.is refl

pub returns-in-Err-clause-failed : goal.returns-in-Err-clause-failed
returns-in-Err-clause-failed g c = rw c.in-Fence.is c.in-Err.ensures.failed

pub returns-in-Err-clause-err : goal.returns-in-Err-clause-err
returns-in-Err-clause-err g c = rw c.in-Fence.is c.in-Err.ensures.err

pub returns-in-Err-clause-line : goal.returns-in-Err-clause-line
returns-in-Err-clause-line g c = rw c.in-Fence.is c.in-Err.ensures.line

pub returns-in-Err-clause-ok : goal.returns-in-Err-clause-ok
returns-in-Err-clause-ok g c = rw c.in-Fence.is c.in-Err.ensures.ok

pub returns-in-Err-clause-same : goal.returns-in-Err-clause-same
returns-in-Err-clause-same g c = rw c.in-Fence.is c.in-Err.ensures.same

pub returns-in-Ok-invalidate-clause-cache : goal.returns-in-Ok-invalidate-clause-cache
returns-in-Ok-invalidate-clause-cache g c = rw c.in-Invalidate.is c.in-Ok-invalidate.ensures.cache

pub returns-in-Ok-invalidate-clause-same : goal.returns-in-Ok-invalidate-clause-same
returns-in-Ok-invalidate-clause-same g c = rw c.in-Invalidate.is c.in-Ok-invalidate.ensures.same

pub returns-in-Ok-invalidate-clause-word : goal.returns-in-Ok-invalidate-clause-word
returns-in-Ok-invalidate-clause-word g c = rw c.in-Invalidate.is refl

pub returns-in-Err-invalidate-clause-err : goal.returns-in-Err-invalidate-clause-err
returns-in-Err-invalidate-clause-err g c = rw c.in-Invalidate.is c.in-Err-invalidate.ensures.err

pub returns-in-Err-invalidate-clause-ok : goal.returns-in-Err-invalidate-clause-ok
returns-in-Err-invalidate-clause-ok g c = rw c.in-Invalidate.is c.in-Err-invalidate.ensures.ok

pub returns-in-Err-invalidate-clause-same : goal.returns-in-Err-invalidate-clause-same
returns-in-Err-invalidate-clause-same g c = rw c.in-Invalidate.is c.in-Err-invalidate.ensures.same

pub returns-in-Err-invalidate-clause-line : goal.returns-in-Err-invalidate-clause-line
returns-in-Err-invalidate-clause-line g c = rw c.in-Invalidate.is refl

pub returns-in-Digest-clause-cache : goal.returns-in-Digest-clause-cache
returns-in-Digest-clause-cache g c = rw c.in-Digest.is refl

pub returns-in-Digest-clause-word : goal.returns-in-Digest-clause-word
returns-in-Digest-clause-word g c = rw c.in-Digest.is refl
