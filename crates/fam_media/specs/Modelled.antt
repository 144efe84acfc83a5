-- Laws of content that is modelled.
use Rattle.std.proofs.Common.{◌≡◌, Option, Some, None, map, length, subst, ap}
use Rattle.std.proofs.lemmas.List.{length-map}
use Rattle.fam_base.specs.Image.{Image, eight}
use Rattle.fam_media.specs.Outside.{IfModelled}

inside : {T : Type 0} → T → Option T → T
inside content None = content
inside content (Some other) = other

-- what holds of the content holds of what is modelled
pub modelled : {T : Type 0} (content : T) (P : T → Type 0) → P content → IfModelled (Some content) P
unfolding inside
modelled content P holds other is = subst P (ap (inside content) is) holds

-- eight words of each line are as many lines
pub modelled_lines : (image : Image) → IfModelled (Some (map eight image)) (λ lines. length lines ≡ length image)
modelled_lines image = modelled (map eight image) (λ lines. length lines ≡ length image) (length-map image eight)
