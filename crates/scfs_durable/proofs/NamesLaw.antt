-- Each name under which a cloud holds something is that of an upload.
use Rattle.std.proofs.Common.{◌≡◌, ℕ, List, length, refl, sym, ap, ◌∙◌, subst}
use Rattle.std.specs.Map.{keys_of}
use Rattle.std.proofs.lemmas.List.Elements.{All-weaker}
use Rattle.scfs_base.specs.Words.{hex_pair}
use Rattle.scfs_base.specs.declared.cloud.CloudRequest.TheVariants as requests
use Rattle.scfs_base.specs.declared.naming.UploadNo.{UploadNo}
use Rattle.scfs_model.specs.Format.{Setup}
use Rattle.scfs_model.specs.History.{History}
use Rattle.scfs_model.specs.Names.{upload_name}
use Rattle.scfs_laws.specs.Acknowledged.{WasSent, WasUploading}
use Rattle.scfs_durable.specs.Named.{IsUploadName, NamesAreUploads, name_bytes}
use Rattle.scfs_durable.specs.Safe.{IsNameable}
use Rattle.scfs_durable.specs.Stores.{objects}
use Rattle.scfs_durable.proofs.CloudLemmas.{IsPutName}
use Rattle.scfs_durable.proofs.Drawn.{always_drawn}
use Rattle.scfs_durable.proofs.Holding.{always_cloud}
use Rattle.scfs_durable.proofs.OneBody.{fits, of_agent}

long_name : (u : UploadNo) → length (upload_name u) ≡ name_bytes
unfolding hex_pair
long_name u = refl

module _ (s : Setup) (past : History) (few : IsNameable s past) (c : ℕ) where
  is_upload : (name : List ℕ) → IsPutName (WasSent s past) c name → IsUploadName s past name
  is_upload name (body, (n, was)) =
      let made = (always_drawn s past).made (record { number = n; cloud = c; body = requests.Put name body }) was in
      let upload : UploadNo = made.0 in
      record {
        upload = upload;
        contents = made.1;
        was_uploading =
            subst (λ b. WasUploading s past b upload made.1) (sym (of_agent s past few n.agent upload made.1 made.4)) made.4;
        fits = fits s past few n.agent upload made.1 made.4;
        is = made.2;
        long = ap length made.2 ∙ long_name upload;
      }

pub names_are_uploads : NamesAreUploads
names_are_uploads s past few c =
    All-weaker (IsPutName (WasSent s past) c) (IsUploadName s past) (is_upload s past few c) (keys_of (objects s past c)) (always_cloud s c past few).names
