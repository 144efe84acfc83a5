use Rattle.std.proofs.Common.{List, Some, ap}
use Rattle.fam_base.specs.declared.entry.MapKind.{MapKind}
use Rattle.fam_base.specs.declared.extents.Extent.{Extent}
use Rattle.fam_base.specs.declared.entry.Entry.{Entry}
use Rattle.fam_tree.proofs.Printed.{same_entry}
use Rattle.fam_tree.proofs.WordsRead.{none_some, some_same}
use Rattle.fam_tree.proofs.line_words.entry_of.Goals as goal

pub returns-in_err-mode-clause-read : goal.returns-in_err-mode-clause-read
returns-in_err-mode-clause-read c = λ e listed same.
    let w = c.words_of-words.ensures e listed same in
    absurd (none_some _ (c.in_err-mode.ensures.read e.mode listed.mode w.mode))

pub returns-in_err-uid-clause-read : goal.returns-in_err-uid-clause-read
returns-in_err-uid-clause-read c = λ e listed same.
    let w = c.words_of-words.ensures e listed same in
    absurd (none_some _ (c.in_err-uid.ensures.read e.uid listed.uid w.uid))

pub returns-in_err-gid-clause-read : goal.returns-in_err-gid-clause-read
returns-in_err-gid-clause-read c = λ e listed same.
    let w = c.words_of-words.ensures e listed same in
    absurd (none_some _ (c.in_err-gid.ensures.read e.gid listed.gid w.gid))

pub returns-in_err-size-clause-read : goal.returns-in_err-size-clause-read
returns-in_err-size-clause-read c = λ e listed same.
    let w = c.words_of-words.ensures e listed same in
    absurd (none_some _ (c.in_err-size.ensures.read e.size listed.size w.size))

pub returns-in_err-map-clause-read : goal.returns-in_err-map-clause-read
returns-in_err-map-clause-read c = λ e listed same.
    let w = c.words_of-words.ensures e listed same in
    absurd (none_some _ (c.in_err-map.ensures.read e.map e.extents listed.map listed.extents w.map))

pub returns-in_err-path-clause-read : goal.returns-in_err-path-clause-read
returns-in_err-path-clause-read c = λ e listed same.
    let w = c.words_of-words.ensures e listed same in
    absurd (none_some _ (c.in_err-path.ensures.read e.path listed.path w.path))

pub returns-clause-read : goal.returns-clause-read
returns-clause-read c = λ e listed same.
    let w = c.words_of-words.ensures e listed same in
    let both = some_same {A = MapKind × List Extent} (c.in_ok-map.map, c.in_ok-map.extents) (e.map, e.extents) (c.in_ok-map.ensures.read e.map e.extents listed.map listed.extents w.map) in
    ap (λ (x : Entry). Some x)
    (same_entry _ e (c.kind_of.ensures e.kind w.kind) (some_same _ _ (c.in_ok-path.ensures.read e.path listed.path w.path)) (some_same _ _ (c.in_ok-size.ensures.read e.size listed.size w.size))
    (some_same _ _ (c.in_ok-mode.ensures.read e.mode listed.mode w.mode)) (some_same _ _ (c.in_ok-uid.ensures.read e.uid listed.uid w.uid))
    (some_same _ _ (c.in_ok-gid.ensures.read e.gid listed.gid w.gid))
    (ap (λ (p : MapKind × List Extent). p.0) both) (ap (λ (p : MapKind × List Extent). p.1) both))

pub returns-clause-listed : goal.returns-clause-listed
returns-clause-listed c = record {
  path = c.in_ok-path.ensures.path;
  size = c.in_ok-size.ensures.fits;
  mode = c.in_ok-mode.ensures.fits;
  uid = c.in_ok-uid.ensures.fits;
  gid = c.in_ok-gid.ensures.fits;
  map = c.in_ok-map.ensures.listed;
  extents = c.in_ok-map.ensures.fits;
}
