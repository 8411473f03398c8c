-- A run whose load isn't taken ends with a status that closing its store doesn't change.
use Rattle.std.proofs.Common.{◌≡◌, Option, None, Some, refl}
use Rattle.pgapply.specs.declared.fault.StoreFault.{StoreFault}
use Rattle.pgapply.specs.declared.fault.StoreFault.TheVariants as store
use Rattle.pgload.specs.declared.fault.InputFault.{InputFault}
use Rattle.pgload.specs.declared.fault.InputFault.TheVariants.{CutInput, Load, Read}
use Rattle.pgload.specs.declared.fault.LoadFault.TheVariants as load
use Rattle.pgwire.specs.declared.fault.WireFault.TheVariants as wire
use Rattle.pgruns.specs.Filed.{status_closed, status_of_unclosed, status_of_unloaded}

pub unloaded_stays : (why : InputFault) (closing : Option StoreFault)
    → status_closed status_of_unclosed (status_of_unloaded why) closing ≡ status_of_unloaded why
unloaded_stays why None = refl
unloaded_stays CutInput (Some _) = refl
unloaded_stays Read (Some _) = refl
unloaded_stays (Load (load.Line oid number reason)) (Some _) = refl
unloaded_stays (Load (load.Marker oid)) (Some _) = refl
unloaded_stays (Load (load.CutLine oid)) (Some _) = refl
unloaded_stays (Load load.Order) (Some _) = refl
unloaded_stays (Load load.TooManyBatches) (Some _) = refl
unloaded_stays (Load load.BadPoint) (Some _) = refl
unloaded_stays (Load load.NotNew) (Some _) = refl
unloaded_stays (Load load.BadInput) (Some _) = refl
unloaded_stays (Load load.Memory) (Some _) = refl
unloaded_stays (Load (load.Wire (wire.UnknownFrame byte))) (Some _) = refl
unloaded_stays (Load (load.Wire wire.BadLength)) (Some _) = refl
unloaded_stays (Load (load.Wire wire.TooLarge)) (Some _) = refl
unloaded_stays (Load (load.Wire wire.AfterDone)) (Some _) = refl
unloaded_stays (Load (load.Wire (wire.UnknownServerMessage byte))) (Some _) = refl
unloaded_stays (Load (load.Wire wire.Short)) (Some _) = refl
unloaded_stays (Load (load.Wire wire.Trailing)) (Some _) = refl
unloaded_stays (Load (load.Wire wire.BadReplyByte)) (Some _) = refl
unloaded_stays (Load (load.Wire wire.Memory)) (Some _) = refl
unloaded_stays (Load (load.Store store.Clash)) (Some _) = refl
unloaded_stays (Load (load.Store store.NoIdentity)) (Some _) = refl
unloaded_stays (Load (load.Store store.UnknownIdentity)) (Some _) = refl
unloaded_stays (Load (load.Store store.UnchangedInInsert)) (Some _) = refl
unloaded_stays (Load (load.Store store.Width)) (Some _) = refl
unloaded_stays (Load (load.Store store.TooManyCopies)) (Some _) = refl
unloaded_stays (Load (load.Store store.Refused)) (Some _) = refl
unloaded_stays (Load (load.Store store.NotAStore)) (Some _) = refl
unloaded_stays (Load (load.Store store.Memory)) (Some _) = refl
