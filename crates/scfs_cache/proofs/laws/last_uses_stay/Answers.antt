use Rattle.std.specs.Cmp.Lexicographic.{nat_list_eq_equiv}
use Rattle.std.specs.Str.{bytes_eq}
use Rattle.scfs_cache.specs.Cached.{same_upload}
use Rattle.scfs_cache.proofs.UploadKeys.{uploads_equivalent}
use Rattle.scfs_cache.proofs.LastUses.{after_uses-last_uses}
use Rattle.scfs_cache.proofs.laws.last_uses_stay.Goals as goal

pub returns : goal.returns
returns c = record {
  contents = after_uses-last_uses same_upload uploads_equivalent;
  stats = after_uses-last_uses bytes_eq nat_list_eq_equiv;
  lists = after_uses-last_uses bytes_eq nat_list_eq_equiv;
}
